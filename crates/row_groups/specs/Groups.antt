-- What a document is made of, its rows by component and group, which of them there are, and what the call's checks
-- give.
use Rattle.std.specs.Prelude.{ℕ, ◌<◌, ◌≤◌, ◌≡◌, Bool, true, false, ◌||◌, List, [], ◌∷◌, map, length, get_or}
use Rattle.spec.specs.Model.{Sizes, Checked, max_components, components, items, item_word, component_of}
use Rattle.spec.specs.Reply.{rows_of}
use Rattle.streams.specs.Streams.{Row, row_in, reply_ok, having, row_component, row_group, groups, row_lines, ended}
use Rattle.row_groups.specs.Lists.{few, Listed}
use Rattle.row_groups.specs.Slots.{Slotted}

-- ---- what a document is made of

pub record Source : Type 0 where
  pub model : List ℕ
  pub names : List ℕ
  pub reply : List ℕ

-- ---- rows

abbrev pub reply_rows : List ℕ → List Row
reply_rows reply = map row_in (rows_of reply)

-- those of component c and group g
abbrev pub kept : List ℕ → ℕ → ℕ → List Row → List Row
kept model c g rows = having (row_group model) g (having (row_component model) c rows)

-- their lines
abbrev pub kept_text : List ℕ → List ℕ → ℕ → ℕ → List Row → List ℕ
kept_text model names c g rows = ended (row_lines model names g (kept model c g rows))

abbrev pub filled : {A : Type 0} → List A → Bool
filled [] = false
filled (x ∷ xs) = true

-- component c has rows of some group
abbrev pub any_kept : List ℕ → ℕ → List Row → Bool
any_kept model c rows = filled (kept model c 0 rows) || (filled (kept model c 1 rows) || filled (kept model c 2 rows))

-- ---- marks: for each group of each component whether it has rows

pub record Marked (model : List ℕ) (rows : List Row) (present : List (List Bool)) : Type 0 where
  pub len : length present ≡ max_components
  pub each : (c : ℕ) → c < max_components → length (get_or present c []) ≡ groups
  pub at : (c g : ℕ) → c < max_components → g < groups
      → get_or (get_or present c []) g false ≡ filled (kept model c g rows)

-- component c has the mark of some group
abbrev pub any_marked : List (List Bool) → ℕ → Bool
any_marked present c =
    get_or (get_or present c []) 0 false
    || (get_or (get_or present c []) 1 false || get_or (get_or present c []) 2 false)

-- ---- what the call's checks give

-- those who write a document
pub record Documented (model names reply : List ℕ) : Type 0 where
  pub checked : Checked model names
  pub accepted : reply_ok model reply ≡ true

-- those who need no names: every row's item is the model's, and its component too
pub record Placed (model reply : List ℕ) : Type 0 where
  pub sizes : Sizes model
  pub component : (j : ℕ) → j < items model → component_of (item_word model j) < components model
  pub accepted : reply_ok model reply ≡ true

-- a document's source, with the marks of its rows, the lists of few, and the items' slots
pub record Ready (model names reply : List ℕ) (present : List (List Bool)) (first : List (List ℕ))
    (next slots : List ℕ) : Type 0 where
  pub documented : Documented model names reply
  pub marked : Marked model (reply_rows reply) present
  pub listed : get_or reply 0 0 ≤ few → Listed model reply 0 first next
  pub slotted : Slotted model (items model) slots
