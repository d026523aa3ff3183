-- A right head says itself for how many items it is. By head_ok, and no clause of it: one more would say of the words
-- what the type says of the Store.
use mathlib.Core.Path.{sym, ◌∙◌}
use Rattle.history.proofs.Observations.{head}
use Rattle.observations.proofs.Laws.{headed}
use Rattle.observations.proofs.store.checked.Goals as goal

pub of-requires : goal.of-requires
of-requires c =
    headed (head _ _ (sym c.head_ok.ensures ∙ c.if-not-head_ok.false)) c.requires
