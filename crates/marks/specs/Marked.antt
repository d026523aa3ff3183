-- Marks beside the entries that they are of: what ties the two in laws and for callers.
use Rattle.std.specs.Prelude.{ℕ, ◌<◌, ◌≡◌, List, [], ◌∷◌}
use Rattle.spec.specs.Entries.{packed}
use Rattle.marks.specs.Marks.{key_of, key_in}

-- ms are the marks of the item own's entries es, with zeros behind
abbrev pub Marked : ℕ → List (List ℕ) → List ℕ → Type 0
Marked own [] [] = Unit {0}
Marked own [] (x ∷ xs) = (x ≡ 0) × Marked own [] xs
Marked own (e ∷ es) [] = ⊥
Marked own (e ∷ es) (x ∷ xs) = (0 < x) × (key_in x ≡ key_of own (packed e)) × Marked own es xs
