-- What a look-up of all ids leaves.
use Rattle.std.specs.Prelude.{ℕ, ◌≡◌, true, false, List, ltb}
use Rattle.spec.specs.Assets.{used}
use Rattle.history.specs.Calls.{all_cells, find_all}
use Rattle.asset_reply.specs.Cells.{Cells}

-- each id's cell, all of them used
abbrev pub FoundAll : List ℕ → List (List ℕ) → List ℕ → Type 0
FoundAll bs ids cells =
    Cells bs cells × ((cells ≡ find_all bs ids) × (all_cells (λ i. ltb i (used bs)) (find_all bs ids) ≡ true))

-- or one of them isn't
abbrev pub NotAll : List ℕ → List (List ℕ) → Type 0
NotAll bs ids = all_cells (λ i. ltb i (used bs)) (find_all bs ids) ≡ false
