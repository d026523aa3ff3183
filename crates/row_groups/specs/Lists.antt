-- The lists of a reply's rows by component and group: where each begins, and what follows each row.
use Rattle.std.specs.Prelude.{ℕ, suc, ◌<◌, ◌≤◌, ◌≡◌, List, [], length, get_or}
use Rattle.spec.specs.Model.{max_components}
use Rattle.spec.specs.Reply.{rows_of}
use Rattle.streams.specs.Streams.{Row, row_in, row_component, row_group, groups}

-- more rows than these have no lists
abbrev pub few : ℕ
few = 255

-- row j
abbrev pub reply_row : List ℕ → ℕ → Row
reply_row reply j = row_in (get_or (rows_of reply) j [])

-- row j is of component c and group g
pub record Stands (model reply : List ℕ) (c g j : ℕ) : Type 0 where
  pub component : row_component model (reply_row reply j) ≡ c
  pub group : row_group model (reply_row reply j) ≡ g

-- from row `from` on, the first row of component c and group g is `at`, or there is none and `at` is the number of rows
pub record Leads (model reply : List ℕ) (c g from at : ℕ) : Type 0 where
  pub above : from ≤ at
  pub below : at ≤ get_or reply 0 0
  pub own : at < get_or reply 0 0 → Stands model reply c g at
  pub others : (j : ℕ) → from ≤ j → j < at → Stands model reply c g j → ⊥

-- the lists of the rows from n on
pub record Listed (model reply : List ℕ) (n : ℕ) (first : List (List ℕ)) (next : List ℕ) : Type 0 where
  pub len : length first ≡ max_components
  pub each : (c : ℕ) → c < max_components → length (get_or first c []) ≡ groups
  pub room : length next ≡ few
  pub starts : (c g : ℕ) → c < max_components → g < groups
      → Leads model reply c g n (get_or (get_or first c []) g 0)
  pub follows : (j : ℕ) → n ≤ j → j < get_or reply 0 0
      → Leads model reply (row_component model (reply_row reply j)) (row_group model (reply_row reply j)) (suc j)
      (get_or next j 0)
