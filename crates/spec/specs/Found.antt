-- A number looked for below n: where the terms have n for none, the code has no number.
use Rattle.std.specs.Prelude.{ℕ, cond, ltb, Option, Some, None}

-- i, where it is below n
abbrev pub found_below : ℕ → ℕ → Option ℕ
found_below n i = cond (ltb i n) (Some i) None
