use Rattle.spec.proofs.Words.{told}
use Rattle.snapshots.proofs.Begun.{beginning-start, beginning-skip, beginning-broken}
use Rattle.snapshots.proofs.Begun.{beginning-more, beginning-end}
use mathlib.Core.Bool.{false≢true}
use Rattle.snapshots.proofs.begin.Goals as goal
use Rattle.snapshots.proofs.begin.Goals.{then-has+in_ok-marks, else-has}

pub loop-i-init : goal.loop-i-init
loop-i-init c =
    beginning-start _ _ _ _

pub begin_item-requires : goal.begin_item-requires
begin_item-requires c =
    record { i_lt_items = rw c.items-i-end.ensures.0 at c.loop-i-test.true }

pub returns-in_err-marks : goal.returns-in_err-marks
returns-in_err-marks c =
    let b = told c.has.ensures c.if-has.true in
    let f = rw c.in_err-marks.was at c.begin_item.ensures in
    rw c.from_residual.ensures (record {
      value = beginning-broken c.loop-i.invariant (rw c.items-i-end.ensures.0 at c.loop-i-test.true) b f;
      marks_after = λ z. absurd (false≢true z);
    })

pub loop-i-preserved : goal.loop-i-preserved
loop-i-preserved c =
    let v = c.loop-i.invariant in
    let h = rw c.items-i-end.ensures.0 at c.loop-i-test.true in
    elim c.if-has.branch [
      | then-has+in_ok-marks w ↦
          let f = rw w.in_ok-marks.was at w.begin_item.ensures in
          rw w.marks-is (beginning-more v h (told c.has.ensures w.if-has.true) f.0 f.1)
      | else-has w ↦ rw w.marks-is (beginning-skip v h (told c.has.ensures w.if-has.false))
    ]

pub returns : goal.returns
returns c =
    let w = beginning-end c.loop-i.invariant (rw c.items-i-end.ensures.0 at c.loop-i-test.false) in record { value = w.0; marks_after = λ z. w.1 }
