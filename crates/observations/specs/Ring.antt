-- What stands at place p of a ring of N entries: the two words of its row, and the row that a number overwrites there.
use Rattle.std.specs.Prelude.{ℕ, ◌-◌, List, cond, get_or, Option, Some, None}
use Rattle.spec.specs.Words.{row}
use Rattle.spec.specs.declared.Row.{Row}
use Rattle.history.specs.Observations.{ring_at, overwrites}

abbrev pub ring_time : List ℕ → ℕ → ℕ → ℕ
ring_time st N p = get_or (row st ring_at N p 2) 0 0

abbrev pub ring_word : List ℕ → ℕ → ℕ → ℕ
ring_word st N p = get_or (row st ring_at N p 2) 1 0

-- what number s, counted from B, is about to overwrite there, if the ring is full
abbrev pub overwritten_at : List ℕ → ℕ → ℕ → ℕ → ℕ → Option Row
overwritten_at st N B s p =
    cond (overwrites N B s) (Some (record { number = s - N; time = ring_time st N p; packed = ring_word st N p })) None
