-- A model that passed keeps each rule, its sizes among them.
use mathlib.Core.Path.{sym, ◌∙◌}
use Rattle.spec.proofs.Model.{checked}
use Rattle.model.proofs.checked.Goals as goal

pub of-words-requires : goal.of-words-requires
of-words-requires c =
    (checked _ _ (sym c.model_ok.ensures ∙ c.if-not-model_ok.false)).sizes

pub invariant_of-result : goal.invariant_of-result
invariant_of-result c =
    rw c.of-words.ensures (record { checked = checked _ _ (sym c.model_ok.ensures ∙ c.if-not-model_ok.false) })
