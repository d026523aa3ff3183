use Rattle.spec.specs.Words.{bit}
use Rattle.history.specs.Observations.{is_condition}
use Rattle.spec.proofs.Words.{told}
use mathlib.Core.Bool.{◌&&◌}
use Rattle.spec.specs.Model.{items, category}
use Rattle.spec.specs.Words.{set_of}
use Rattle.spec.proofs.Bits.{set-lt, set_more}
use Rattle.snapshots.specs.Snapshots.{steps_of}
use native.Mathlib.Omega.{arith}
use mathlib.Core.Path.{◌≡◌, refl, ap, ◌∙◌}
use Rattle.snapshots.proofs.steps_of.Goals as goal
use Rattle.snapshots.proofs.steps_of.Goals.{then-has, else-has}

pub loop-i-init : goal.loop-i-init
unfolding set_of
loop-i-init c =
    refl

pub with_if-set-requires : goal.with_if-set-requires
with_if-set-requires c =
    (omega arith, rw c.loop-i.invariant (set-lt _ _))

pub loop-i-preserved : goal.loop-i-preserved
loop-i-preserved c =
    let i = c.loop-i.i in
    let t : c.if-has.steps ≡ (bit c.args.selection i && is_condition (category c.args.model.now) i) =
    elim c.if-has.branch [
      | then-has w ↦ let b = told c.has.ensures w.if-has.true in w.steps-is ∙ rw (b, w.category.ensures)
      | else-has w ↦ let b = told c.has.ensures w.if-has.false in w.steps-is ∙ (w.if-has.false ∙ rw b)
    ] in
    set_more _ _ _ _ _ c.loop-i.invariant t c.with_if-set.ensures

pub returns : goal.returns
returns c =
    let v = c.loop-i.invariant in
    let e : c.loop-i.i ≡ items c.args.model.now = omega arith in
    v ∙ ap (steps_of (category c.args.model.now) c.args.selection) e
