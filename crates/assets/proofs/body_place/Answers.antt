-- A wrong head gives nothing.
use mathlib.Core.Bool.{false≢true}
use mathlib.Core.Path.{sym, ◌∙◌}
use Rattle.assets.proofs.Laws.{no_place_lem, head-refused}
use Rattle.assets.proofs.body_place.Goals as goal

pub returns-in_err-ok-clause-value : goal.returns-in_err-ok-clause-value
returns-in_err-ok-clause-value c =
    let f = head-refused _ _ c.checked.ensures (sym c.ok.ensures.value ∙ c.in_err-ok.was) in
    c.from_residual.ensures ∙ no_place_lem _ _ (λ h l g. false≢true (sym f ∙ h))
