-- How many rows current has beyond one for each selected item.
use Rattle.std.specs.Prelude.{ℕ, cond, Option, Some, None, List}
use Rattle.spec.specs.Words.{bit}
use Rattle.spec.specs.Blocks.{extra_rows}
use Rattle.spec.specs.Model.{items, category}
use Rattle.history.specs.Observations.{ring_size, latest_rows, current_ok, current_rows}

-- the condition items' used entries beyond the first; none is given where a form is broken
unfoldable pub extra_in : (ℕ → ℕ) → ℕ → List ℕ → ℕ → Option ℕ
extra_in cat m st selection =
    let N = ring_size st in
    cond (current_ok cat N m st selection) (Some (extra_rows (bit selection) (latest_rows cat N m st) m 0)) None

-- the selected items' latest entries, of a model and a store, and the rows beyond one for each
abbrev pub latest_in : List ℕ → List ℕ → ℕ → List (List ℕ)
latest_in model st selection = current_rows (category model) (ring_size st) (items model) st selection

abbrev pub latest_extra : List ℕ → List ℕ → ℕ → Option ℕ
latest_extra model st selection = extra_in (category model) (items model) st selection
