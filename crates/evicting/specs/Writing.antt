-- What a number that is written and a table that takes an observation need of the store.
use Rattle.std.specs.Prelude.{ℕ, ◌+◌, ◌*◌, ◌≤◌, ◌<◌, ◌≡◌, true, List, length}
use Rattle.spec.specs.Entries.{form_ok}
use Rattle.history.specs.Observations.{item_rows, is_condition, evict_ok}
use Rattle.plain.specs.Short.{InRing}

-- a number may be added: what it overwrites, if anything, has an item below m whose checkpoint takes it
pub record Overwriting (cat : ℕ → ℕ) (n m b s : ℕ) (st : List ℕ) : Type 0 where
  pub ring : InRing n m b s st
  pub ok : evict_ok cat n m b s st ≡ true

-- an item's rows of the table at word t: a condition item's have their written form
pub record InTable (cat : ℕ → ℕ) (m t item : ℕ) (st : List ℕ) : Type 0 where
  pub low : item < m
  pub room : t + 24 * m ≤ length st
  pub form : is_condition cat item ≡ true → form_ok item 0 (item_rows st t m item) ≡ true
