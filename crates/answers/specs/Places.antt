-- The refusals in the order of their numbers, counted from 1: none has the number 12.
use Rattle.std.specs.Prelude.{ℕ, suc, cond, ltb}

-- the number of the refusal at a place
abbrev pub number_at : ℕ → ℕ
number_at place = cond (ltb place 12) place (suc place)
