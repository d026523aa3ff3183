use Rattle.spec.specs.Path.{under}
use Rattle.spec.proofs.Path.{under-lt, under_more}
use native.Mathlib.Omega.{arith}
use mathlib.Core.Path.{refl}
use Rattle.select.proofs.under_type.Goals as goal

pub loop-i-init : goal.loop-i-init
unfolding under
loop-i-init c = refl

pub with_if-set-requires : goal.with_if-set-requires
with_if-set-requires c =
    let a = c.args in
    (omega arith, rw c.loop-i.invariant (under-lt a.model.now.words a.model.now.names.now a.t.now _))

pub loop-i-preserved : goal.loop-i-preserved
loop-i-preserved c =
    let a = c.args in
    under_more a.model.now.words a.model.now.names.now a.t.now _ _ _ _ _ c.loop-i.invariant refl
    c.joins.ensures c.with_if-set.ensures
