use native.Mathlib.Omega.{arith}
use Rattle.entries.proofs.Filling.{filling-start, filling-end, reading-spoilt, reading-unused, reading-late}
use Rattle.entries.proofs.Filling.{reading, reading-refused, reading-used}
use Rattle.entries.proofs.Laws.{filled-broken}
use mathlib.Core.Path.{◌≡◌, refl}
use Rattle.std.specs.Prelude.{None}
use Rattle.entries.specs.Forms.{filled}
use Rattle.entries.proofs.fill.Goals as goal
use Rattle.entries.proofs.fill.Goals.{then-row-ne0-via-then-row-ne0, then-row-ne0-via-else-row-ne0+then-row-ne0-2}
use Rattle.entries.proofs.fill.Goals.{then-n-j-via-then-n-j, then-n-j-via-else-n-j+then-not-may_follow}
use Rattle.entries.proofs.fill.Goals.{then-row-eq0+else-row-ne0+else-row-ne0-2}
use Rattle.entries.proofs.fill.Goals.{else-row-eq0+else-n-j+else-not-may_follow}

pub loop-j-init : goal.loop-j-init
loop-j-init c = filling-start _ _ refl

pub returns-then-row-ne0 : goal.returns-then-row-ne0
returns-then-row-ne0 c =
    let d = reading c.loop-j.invariant c.len-j-end.ensures.1 (omega arith) c.row-row.ensures in
    filled-broken _ _ (reading-spoilt d c.if-row-eq0.true (λ x y. elim c.then-row-ne0.branch [
      | then-row-ne0-via-then-row-ne0 w ↦ w.if-row-ne0.true x
      | then-row-ne0-via-else-row-ne0+then-row-ne0-2 w ↦ w.if-row-ne0-2.true y
    ]))

pub returns-then-n-j : goal.returns-then-n-j
returns-then-n-j c =
    let d = reading c.loop-j.invariant c.len-j-end.ensures.1 (omega arith) c.row-row.ensures in
    let e : None ≡ filled c.args.own c.args.entries.now =
    elim c.then-n-j.branch [
      | then-n-j-via-then-n-j w ↦ reading-late d c.if-row-eq0.false w.if-n-j.true
      | then-n-j-via-else-n-j+then-not-may_follow w ↦
          reading-refused d c.if-row-eq0.false c.key_of-key.ensures.0 w.if-n-j.false w.may_follow.ensures
          w.if-not-may_follow.true
    ] in
    filled-broken _ _ e

pub loop-j-preserved : goal.loop-j-preserved
loop-j-preserved c =
    let d = reading c.loop-j.invariant c.len-j-end.ensures.1 (omega arith) c.row-row.ensures in
    elim c.if-row-eq0.branch [
      | then-row-eq0+else-row-ne0+else-row-ne0-2 w ↦
          rw (w.marks-is, w.n-is)
          (reading-unused d w.if-row-eq0.true w.if-row-ne0.false w.if-row-ne0-2.false)
      | else-row-eq0+else-n-j+else-not-may_follow w ↦
          rw (w.marks-is, w.n-is)
          (reading-used d w.if-row-eq0.false w.key_of-key.ensures.0 w.if-n-j.false w.may_follow.ensures
          w.if-not-may_follow.false w.mark_of.ensures)
    ]

pub returns : goal.returns
returns c =
    filling-end c.loop-j.invariant c.len-j-end.ensures.1 (omega arith)
