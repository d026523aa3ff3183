-- The cells that a reply is to have.
use Rattle.std.specs.Prelude.{ℕ, ◌≤◌, ◌<◌, List, length, get_or}
use Rattle.spec.specs.Assets.{max_assets, capacity}

-- not too many, and each of them one of the store's
pub record Cells (bs cells : List ℕ) : Type 0 where
  pub few : length cells ≤ max_assets
  pub below : (i : ℕ) → i < length cells → get_or cells i 0 < capacity bs
