-- Whether an item's eight rows take one more observation.
use Rattle.std.specs.Prelude.{ℕ, Bool, ◌&&◌, List, [], ◌∷◌, leb, length}
use Rattle.spec.specs.Entries.{used_rows, step, form_ok}

-- they have their written form, and an observation of this packed word makes no ninth
unfoldable pub takes_one : ℕ → List (List ℕ) → ℕ → Bool
takes_one own rs word = form_ok own 0 rs && leb (length (step own (used_rows rs) (0 ∷ 0 ∷ word ∷ []))) 8
