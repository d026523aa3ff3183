-- What start's store is made from.
use Rattle.std.specs.Prelude.{ℕ, suc, ◌+◌, ◌≤◌, List}
use Rattle.spec.specs.Model.{items, category}
use Rattle.history.specs.Observations.{max_ring, max_number}
use Rattle.history.specs.Calls.{Started, start_both}

-- the sizes and the first number that start accepts
pub record Starting (n m b : ℕ) : Type 0 where
  pub n_pos : 1 ≤ n
  pub n_max : n ≤ max_ring
  pub b_pos : 1 ≤ b
  pub b_max : b + m ≤ suc max_number

-- both stores anew for a model, or the refusal
abbrev pub started_by : List ℕ → List ℕ → List ℕ → ℕ → ℕ → ℕ → ℕ → Started
started_by model st bs N A B host = start_both (category model) (items model) st bs N A B host
