-- What a number needs of the store, the test of what it overwrites, and a number put by one row.
use Rattle.std.specs.Prelude.{ℕ, ◌*◌, ◌≤◌, ◌≡◌, Bool, ◌&&◌, ◌||◌, not, List, [], ◌∷◌, leb, ltb, length, set}
use Rattle.spec.specs.Words.{put}
use Rattle.spec.specs.Value.{item_of}
use Rattle.spec.specs.Entries.{form_ok}
use Rattle.history.specs.Observations.{max_ring, last_at, ring_at, latest_at, checkpoint_at, store_words}
use Rattle.history.specs.Observations.{item_rows, is_condition, stepped, evict, evict_ok, ring_size, latest_ok}
use Rattle.history.specs.Calls.{room_for, added}
use Rattle.spec.specs.Answers.{Verdict}
use Rattle.spec.specs.Model.{items, category}

-- number s has a place in the ring of a store of these sizes
pub record InRing (n m b s : ℕ) (st : List ℕ) : Type 0 where
  pub n_pos : 1 ≤ n
  pub n_max : n ≤ max_ring
  pub b_s : b ≤ s
  pub len : length st ≡ store_words n m

-- the refusal Store's test of the entry about to be overwritten, by its packed word
unfoldable pub overwritable : (ℕ → ℕ) → ℕ → ℕ → List ℕ → ℕ → Bool
overwritable cat n m st word =
    let i = item_of word in
    ltb i m
    && (not (is_condition cat i)
    || (form_ok i 0 (item_rows st (checkpoint_at n m) m i)
    && leb (length (stepped st (checkpoint_at n m) m i (0 ∷ 0 ∷ word ∷ []))) 8))

-- number s at place p by one row: the ring, the item's first latest entry, and last
unfoldable pub put_number : ℕ → ℕ → ℕ → ℕ → ℕ → ℕ → ℕ → List ℕ → List ℕ
put_number n m p item s time word st =
    set
    (put (put st ring_at n p (time ∷ word ∷ [])) (latest_at n) (8 * m) (8 * item) (s ∷ time ∷ word ∷ []))
    last_at
    s

-- of a model and a store: whether a number may overwrite what stands at its place, and the store behind that; the room
-- for a number, and the store behind an addition
abbrev pub may_evict : List ℕ → ℕ → ℕ → ℕ → List ℕ → Bool
may_evict model n b s st = evict_ok (category model) n (items model) b s st

abbrev pub evicted_in : List ℕ → ℕ → ℕ → ℕ → List ℕ → List ℕ
evicted_in model n b s st = evict (category model) n (items model) b s st

abbrev pub room_in : List ℕ → List ℕ → Verdict
room_in model st = room_for (category model) (items model) st

abbrev pub added_in : List ℕ → List ℕ → ℕ → ℕ → ℕ → List ℕ
added_in model st item time word = added (category model) (items model) st item time word

-- whether the item's latest has its form
abbrev pub formed_in : List ℕ → List ℕ → ℕ → Bool
formed_in model st item = latest_ok (category model) (ring_size st) (items model) st item
