-- Each fault gives nothing; a cell that was found lies inside the store, and so does a body of the longest length.
use mathlib.Core.Path.{sym, subst, ◌∙◌}
use native.Mathlib.Omega.{arith}
use Rattle.spec.specs.Assets.{AssetHead}
use Rattle.spec.proofs.Found.{found-is, found-not}
use Rattle.spec.proofs.Assets.{asset-head-ok}
use Rattle.assets.proofs.Laws.{no_place_lem, wrong-length, place_is, length-pos, length-max}
use Rattle.assets.proofs.stored.Assets.body_place.Goals as goal

pub returns-in_err-i-clause-value : goal.returns-in_err-i-clause-value
returns-in_err-i-clause-value c =
    let n = found-not _ c.in_err-i.ensures.value in
    rw c.from_residual.ensures (no_place_lem _ _ (λ h l g. omega arith))

pub returns-then-not-length_ok-clause-value : goal.returns-then-not-length_ok-clause-value
returns-then-not-length_ok-clause-value c =
    let f = found-is _ c.in_ok-i.ensures.value in
    wrong-length _ _ _ _ _ f.0 c.length_at-n.ensures.value c.length_ok.ensures c.if-not-length_ok.true

pub returns-clause-value : goal.returns-clause-value
returns-clause-value c =
    let f = found-is _ c.in_ok-i.ensures.value in
    let head = subst AssetHead c.self.view_is c.self.invariant in
    place_is _ c.args.id.now _ _ _ (asset-head-ok _ head) f.0 (omega arith) c.bodies_at.ensures
    c.length_at-n.ensures.value (sym c.length_ok.ensures ∙ c.if-not-length_ok.false)

pub returns-clause-place_fits : goal.returns-clause-place_fits
returns-clause-place_fits c =
    let f = found-is _ c.in_ok-i.ensures.value in
    let head = subst AssetHead c.self.view_is c.self.invariant in
    let n = c.length_at-n.result in
    let g = sym c.length_ok.ensures ∙ c.if-not-length_ok.false in
    (omega (arith, length-max n g), length-pos n g)
