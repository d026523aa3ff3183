-- A test of a row, as a closure makes it.
use Rattle.std.specs.Prelude.{ℕ, Bool, ◌≡◌}
use denote.Param.Members.{Shared}
use Rattle.spec.specs.declared.Row.{Row}

-- each call of the closure says whether p holds of the row's number, time and packed word
abbrev pub Tells : {F : Type 0} → Shared F (Row × Unit {0}) Bool → F → (ℕ → ℕ → ℕ → Bool) → Type 0
Tells g f p = (r : Row) (t : Bool) → g.post f (r, tt) t → t ≡ p r.number r.time r.packed
