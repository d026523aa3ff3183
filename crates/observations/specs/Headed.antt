-- A store whose head is right for as many items as it says itself.
use Rattle.std.specs.Prelude.{ℕ, ◌≤◌, List}
use Rattle.spec.specs.Model.{max_items}
use Rattle.history.specs.Observations.{item_count, Head}

pub record Headed (st : List ℕ) : Type 0 where
  pub head : Head (item_count st) st
  pub few : item_count st ≤ max_items
