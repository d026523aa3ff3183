-- The replies of observations, of a model and a store.
use Rattle.std.specs.Prelude.{ℕ, List, Some}
use Rattle.spec.specs.Model.{items, category}
use Rattle.spec.specs.Reply.{Replied}
use Rattle.history.specs.Calls.{current_reply, current_up_to, at_reply}

-- current, of what is selected
abbrev pub current_in : List ℕ → List ℕ → List ℕ → ℕ → Replied
current_in model st reply selection = current_reply (category model) (items model) st reply (Some selection)

-- current with `at`, of what is selected, behind the test of the number's range
abbrev pub up_to_in : List ℕ → List ℕ → ℕ → List ℕ → ℕ → Replied
up_to_in model st number reply selection = current_up_to (category model) (items model) st selection number reply

-- the same with that test
abbrev pub at_in : List ℕ → List ℕ → ℕ → List ℕ → ℕ → Replied
at_in model st number reply selection = at_reply (category model) (items model) st number reply (Some selection)
