use Rattle.spec.proofs.Words.{told}
use Rattle.snapshots.proofs.Settled.{settling-start, settling-skip, settling-more, settling-end}
use mathlib.Core.Path.{refl}
use lib.Dec.{lit<}
use native.Mathlib.Omega.{arith}
use Rattle.snapshots.proofs.settle.Goals as goal
use Rattle.snapshots.proofs.settle.Goals.{then-has+then-not-has, else-has}
use Rattle.snapshots.proofs.settle.Goals.{else-has-via-then-has+else-not-has, else-has-via-else-has}

pub loop-i-init : goal.loop-i-init
loop-i-init c =
    settling-start _ _ _ _ _ _

pub plain_place-place-requires : goal.plain_place-place-requires
plain_place-place-requires c =
    record {
      i_bound = (
        rw c.items-i-end.ensures.0 at c.loop-i-test.true,
        omega (arith, c.loop-i-test.true, c.items-i-end.ensures.1),
      );
    }

pub mark_of-requires : goal.mark_of-requires
mark_of-requires c = (omega (arith, c.plain_place-place.ensures.1, c.requires c.loop-i.i), lit< tt)

pub loop-i-preserved : goal.loop-i-preserved
loop-i-preserved c =
    let v = c.loop-i.invariant in
    let h = rw c.items-i-end.ensures.0 at c.loop-i-test.true in
    elim c.if-has.branch [
      | then-has+then-not-has w ↦
          rw w.marks-is
          (settling-more v h (rw (told c.has.ensures w.if-has.true, told w.has-then-has.ensures w.if-not-has.true)) refl
          (rw w.from.ensures at w.plain_place-place.ensures.0) w.mark_of.ensures)
      | else-has w ↦
          rw w.marks-is
          (settling-skip v h
          (elim w.else-has.branch [
            | else-has-via-then-has+else-not-has u ↦
                rw (told c.has.ensures u.if-has.true, told u.has-then-has.ensures u.if-not-has.false)
            | else-has-via-else-has u ↦ rw (told c.has.ensures u.if-has.false)
          ]))
    ]

pub returns : goal.returns
returns c =
    settling-end c.loop-i.invariant (rw c.items-i-end.ensures.0 at c.loop-i-test.false)
