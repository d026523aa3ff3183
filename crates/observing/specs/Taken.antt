-- What an item's category makes of a value.
use Rattle.std.specs.Prelude.{ℕ, cond, Option, Some, None}
use Rattle.spec.specs.Value.{takes, pack}
use Rattle.spec.specs.declared.Value.{Value}

-- the packed word, where the item takes the value
unfoldable pub taken : ℕ → ℕ → Value → Option ℕ
taken category item v = cond (takes category v) (Some (pack item v)) None
