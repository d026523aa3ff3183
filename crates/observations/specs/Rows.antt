-- A row's words, as a table of the store has them.
use Rattle.std.specs.Prelude.{ℕ, List, [], ◌∷◌}
use Rattle.spec.specs.declared.Row.{Row}

abbrev pub words_of : Row → List ℕ
words_of r = r.number ∷ r.time ∷ r.packed ∷ []
