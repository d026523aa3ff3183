-- Answers that begin alike stay: a lemma over the place that they share is no shorter.
use mathlib.Core.Bool.{false≢true}
use mathlib.Core.Path.{ap}
use lib.ListN.{length}
use Rattle.std.specs.Prelude.{is_some}
use native.Mathlib.Omega.{arith}
use Rattle.picks.proofs.Gathers.{stepping-start, stepping-pick, stepping-item, stepping-no, stepping-more, stepping-end}
use Rattle.picks.proofs.step_picks.Goals as goal

pub loop-pick-init : goal.loop-pick-init
loop-pick-init c =
    stepping-start _ _ _ _ _ _ c.requires.ended c.requires.each

pub overflow_add-run : goal.overflow_add-run
overflow_add-run c =
    let w = stepping-pick c.loop-pick.invariant c.from-far.ensures c.if-far-eq-BLOCK.false in
    omega (arith, w.inside, c.slice-words.ensures.head.head.n_max)

pub ring_word-word-requires : goal.ring_word-word-requires
ring_word-word-requires c =
    let w = stepping-pick c.loop-pick.invariant c.from-far.ensures c.if-far-eq-BLOCK.false in
    (omega (arith, w.inside), omega (arith, c.slice-words.ensures.head.head.len, ap length c.slice-words.ensures.value))

pub overflow_add-begin : goal.overflow_add-begin
overflow_add-begin c =
    let p = c.requires.part in
    omega (arith, p.ordered, p.near, p.from, c.slice-words.ensures.head.head.n_max)

pub overflow_add-place : goal.overflow_add-place
overflow_add-place c =
    let w = stepping-pick c.loop-pick.invariant c.from-far.ensures c.if-far-eq-BLOCK.false in
    omega (arith, w.near, c.slice-words.ensures.head.head.n_max, c.requires.part.from)

pub step_item-requires : goal.step_item-requires
step_item-requires c =
    let v = c.loop-pick.invariant in
    let w = stepping-pick v c.from-far.ensures c.if-far-eq-BLOCK.false in
    let i =
    stepping-item v c.from-far.ensures c.if-far-eq-BLOCK.false c.ring_size-n.ensures.is (rw c.slice-words.ensures.value at c.ring_word-word.ensures)
    c.item_of-i.ensures in (
      omega (arith, i, c.slice-words.ensures.head.few),
      omega (arith, w.near, c.slice-words.ensures.head.head.n_max, c.requires.part.from),
    )

pub bounds-marks-i : goal.bounds-marks-i
bounds-marks-i c =
    let i =
    stepping-item c.loop-pick.invariant c.from-far.ensures c.if-far-eq-BLOCK.false c.ring_size-n.ensures.is
    (rw c.slice-words.ensures.value at c.ring_word-word.ensures) c.item_of-i.ensures in
    omega (arith, i, c.slice-words.ensures.head.few)

pub returns-in_err-step_item : goal.returns-in_err-step_item
returns-in_err-step_item c =
    rw c.from_residual.ensures (record {
      value = stepping-no c.loop-pick.invariant c.from-far.ensures c.if-far-eq-BLOCK.false c.ring_size-n.ensures.is
          (rw c.slice-words.ensures.value at c.ring_word-word.ensures) c.item_of-i.ensures c.step_item.ensures.value (ap is_some c.in_err-step_item.was);
      marks_after = λ z. absurd (false≢true z);
    })

pub loop-pick-preserved : goal.loop-pick-preserved
loop-pick-preserved c =
    let y = ap is_some c.in_ok-step_item.was in
    stepping-more c.loop-pick.invariant c.from-far.ensures c.if-far-eq-BLOCK.false c.ring_size-n.ensures.is
    (rw c.slice-words.ensures.value at c.ring_word-word.ensures) c.item_of-i.ensures c.step_item.ensures.value y
    (omega (arith, c.requires.part.from))
    (c.step_item.ensures.marks_after y)

pub returns-then-far-eq-BLOCK : goal.returns-then-far-eq-BLOCK
returns-then-far-eq-BLOCK c =
    let w = stepping-end c.loop-pick.invariant c.from-far.ensures c.if-far-eq-BLOCK.true in
    record { value = w.0; marks_after = λ z. w.1 }
