-- A number is left and its place was made: the ring, the latest's one row and last are written. Answers that begin
-- alike stay: a lemma over the place that they share is no shorter.
use mathlib.Core.Path.{refl, ◌∙◌}
use native.Mathlib.Omega.{arith}
use native.Mathlib.Numerals.{add-one}
use borrow.Author.Tests.{eqb-false}
use Rattle.spec.specs.Model.{category}
use Rattle.history.proofs.Added.{length-evict}
use Rattle.plain.proofs.Laws.{next-ring, room-left, newest-row, numbered, added_next}
use Rattle.plain.proofs.add_plain.Goals as goal

pub evict_plain-requires : goal.evict_plain-requires
evict_plain-requires c =
    let n = rw c.of_model-before.ensures.0 at c.ring_size-n.ensures.is in
    let b = rw c.of_model-before.ensures.0 at c.base-b.ensures in
    let l = rw c.of_model-before.ensures.0 at c.last-s.ensures.is in
    record {
      in_ring = next-ring n b l c.requires.head;
      p_value = (rw (c.ring_size-n.ensures.is, c.base-b.ensures) c.place-p.ensures.is, rw c.ring_size-n.ensures.is c.place-p.ensures.low);
    }

pub returns-in_err-evict_plain : goal.returns-in_err-evict_plain
returns-in_err-evict_plain c =
    rw c.from_residual.ensures (rw c.in_err-evict_plain.was at c.evict_plain.ensures)

pub put_number-requires : goal.put_number-requires
put_number-requires c =
    let x = rw c.in_ok-evict_plain.was at c.evict_plain.ensures in
    let n = rw c.of_model-before.ensures.0 at c.ring_size-n.ensures.is in
    record {
      p_lt_n = (rw c.ring_size-n.ensures.is c.place-p.ensures.low, omega arith);
      item_lt_m = (omega (arith, c.requires.item_bound.0), omega arith);
      st_len = rw (x.1, n, c.items-m.ensures.0) (length-evict _ _ _ _ _ _ ∙ c.requires.head.len);
    }

pub returns : goal.returns
returns c =
    let x = rw c.in_ok-evict_plain.was at c.evict_plain.ensures in
    let n = rw c.of_model-before.ensures.0 at c.ring_size-n.ensures.is in
    let b = rw c.of_model-before.ensures.0 at c.base-b.ensures in
    let l = rw c.of_model-before.ensures.0 at c.last-s.ensures.is in
    let room = room-left _ _ _ _ _ _ n b l (omega (arith, c.if-s-gt-MAX_NUMBER.false)) x.0 in
    let row =
    newest-row (category c.args.model.now) _ _ _ _ _ refl _ _ (eqb-false _ 2 c.requires.item_bound.1) refl in
    let after =
    added_next _ _ _ _ _ _ _ _ _ _ n b l
    (numbered _ _ _ _ _ _ _ _ _ _ _ _ x.1 (rw (c.ring_size-n.ensures.is, c.base-b.ensures) c.place-p.ensures.is) row
    (rw c.items-m.ensures.0 at c.put_number.ensures)) in
    (rw l (add-one _), (room, after))
