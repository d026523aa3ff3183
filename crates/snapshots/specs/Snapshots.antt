-- The marks of every item before the pass over the ring and behind it.
use Rattle.std.specs.Prelude.{ℕ, zero, suc, ◌-◌, Bool, cond, ◌&&◌, ◌||◌, not, List, eqb, get_or, set}
use Rattle.spec.specs.Words.{bit, set_of, every}
use Rattle.spec.specs.Entries.{form_ok}
use Rattle.spec.specs.Model.{items, category}
use Rattle.history.specs.Observations.{ring_size, base, checkpoint_at, item_rows, item_row, is_condition}
use Rattle.history.specs.Observations.{ring_ok, at_ok, at_rows}
use Rattle.marks.specs.Marks.{mark_of, eight_of}
use Rattle.entries.specs.Forms.{marks_of}

-- of a model and a store with the numbers from f up to e: whether ring, checkpoints and entries are right, and the rows
abbrev pub at_right : List ℕ → List ℕ → ℕ → ℕ → ℕ → Bool
at_right model st selection f e =
    ring_ok (ring_size st) (items model) (base st) st (e - f) f
    && at_ok (category model) (ring_size st) (items model) (base st) st selection (e - f) f

abbrev pub at_held : List ℕ → List ℕ → ℕ → ℕ → ℕ → List (List ℕ)
at_held model st selection f e = at_rows (category model) (ring_size st) (items model) (base st) st selection (e - f) f

-- the selected condition items
abbrev pub steps_of : (ℕ → ℕ) → ℕ → ℕ → ℕ
steps_of cat selection m = set_of (λ i. bit selection i && is_condition cat i) m

-- ---- the marks that the checkpoints give

-- those of the condition items among k items from i on
unfoldable pub begun : ℕ → ℕ → List ℕ → ℕ → ℕ → List (List ℕ) → List (List ℕ)
begun steps m st zero i l = l
begun steps m st (suc k) i l =
    begun steps m st k (suc i)
    (cond (bit steps i) (set l i (marks_of i 1 (item_rows st (checkpoint_at (ring_size st) m) m i))) l)

-- the refusal Store: their checkpoints are in their written form
unfoldable pub forms_ok : ℕ → ℕ → List ℕ → Bool
forms_ok steps m st =
    every (λ i. not (bit steps i) || form_ok i 0 (item_rows st (checkpoint_at (ring_size st) m) m i)) m 0

-- ---- the other items

-- the place of such an item: its newest number's, or of its checkpoint's first entry, if that is used
abbrev pub plain_place : List ℕ → ℕ → ℕ
plain_place r p = cond (eqb p 0) (cond (eqb (get_or r 0 0) 0) 0 1) p

-- the marks of those that are selected among k items from i on, w being the newest places
unfoldable pub settled : ℕ → ℕ → ℕ → List ℕ → List ℕ → ℕ → ℕ → List (List ℕ) → List (List ℕ)
settled selection steps m st w zero i l = l
settled selection steps m st w (suc k) i l =
    settled selection steps m st w k (suc i)
    (cond (bit selection i && not (bit steps i))
    (set l i (set (eight_of l i) 0
    (mark_of (plain_place (item_row st (checkpoint_at (ring_size st) m) m i) (get_or w i 0)) 0))) l)
