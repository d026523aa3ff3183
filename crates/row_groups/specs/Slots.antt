-- A number for each group of each component, and for each item that of the group that its rows stand in.
use Rattle.std.specs.Prelude.{ℕ, ◌+◌, ◌*◌, ◌<◌, ◌≡◌, List, length, get_or}
use Rattle.spec.specs.Model.{max_items, item_word, component_of, category_of}
use Rattle.streams.specs.Streams.{group_of, groups}

-- component c's group g, behind all groups of the components before
abbrev pub slot : ℕ → ℕ → ℕ
slot c g = groups * c + g

-- that of the item of this word
abbrev pub own_slot : ℕ → ℕ
own_slot word = slot (component_of word) (group_of (category_of word))

-- the items' slots below item n
pub record Slotted (model : List ℕ) (n : ℕ) (slots : List ℕ) : Type 0 where
  pub len : length slots ≡ max_items
  pub at : (j : ℕ) → j < n → get_or slots j 0 ≡ own_slot (item_word model j)
