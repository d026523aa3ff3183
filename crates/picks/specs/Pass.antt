-- The marks and the newest places behind numbers of the ring, one number at a time.
use Rattle.std.specs.Prelude.{ℕ, zero, suc, ◌+◌, ◌-◌, ◌≤◌, ◌≡◌, Bool, true, cond, ◌&&◌, ◌||◌, not, List}
use Rattle.std.specs.Prelude.{ltb, get_or, set}
use Rattle.spec.specs.Words.{bit}
use Rattle.spec.specs.Value.{item_of}
use Rattle.history.specs.Observations.{ring_size, base, entry}
use Rattle.marks.specs.Marks.{mark_of, key_of, eight_of}
use Rattle.changes.specs.Changes.{change_for, changed, is_full}
use Rattle.rows.specs.Rows.{InRing}
use Rattle.rows.specs.declared.Run.{Run}

-- a condition item's eight behind an entry of its own at a place, by its packed word
abbrev pub stepped_eight : ℕ → ℕ → ℕ → List ℕ → List ℕ
stepped_eight i place word ms = changed 0 (change_for i ms word) (mark_of place (key_of i word)) ms

-- all marks behind it; another item has none
abbrev pub stepped_at : ℕ → ℕ → ℕ → List (List ℕ) → List (List ℕ)
stepped_at i place word l = set l i (stepped_eight i place word (eight_of l i))

abbrev pub stepped : ℕ → ℕ → ℕ → ℕ → List (List ℕ) → List (List ℕ)
stepped steps i place word l = cond (bit steps i) (stepped_at i place word l) l

-- the entry is no ninth
abbrev pub fits : ℕ → ℕ → List (List ℕ) → Bool
fits i word l = not (is_full (change_for i (eight_of l i) word))

unfoldable pub stepped_ok : ℕ → ℕ → ℕ → List (List ℕ) → Bool
stepped_ok steps i word l = not (bit steps i) || fits i word l

-- the packed word of number s
abbrev pub word_of : List ℕ → ℕ → ℕ
word_of st s = get_or (entry (ring_size st) (base st) st s) 1 0

-- the marks behind number s, f being the pass's first
abbrev pub number_stepped : ℕ → List ℕ → ℕ → ℕ → List (List ℕ) → List (List ℕ)
number_stepped steps st f s l = stepped steps (item_of (word_of st s)) (s - f + 9) (word_of st s) l

-- behind k numbers from s on; refused as Store unless each has an item of the model and is no ninth entry
unfoldable pub pass_marks : ℕ → List ℕ → ℕ → ℕ → ℕ → List (List ℕ) → List (List ℕ)
pass_marks steps st f zero s l = l
pass_marks steps st f (suc k) s l = pass_marks steps st f k (suc s) (number_stepped steps st f s l)

unfoldable pub pass_ok : ℕ → ℕ → List ℕ → ℕ → ℕ → ℕ → List (List ℕ) → Bool
pass_ok steps m st f zero s l = true
pass_ok steps m st f (suc k) s l =
    ltb (item_of (word_of st s)) m
    && (stepped_ok steps (item_of (word_of st s)) (word_of st s) l
    && pass_ok steps m st f k (suc s) (number_stepped steps st f s l))

-- each item's newest place behind them
unfoldable pub seen_from : List ℕ → ℕ → ℕ → ℕ → List ℕ → List ℕ
seen_from st f zero s w = w
seen_from st f (suc k) s w = seen_from st f k (suc s) (set w (item_of (word_of st s)) (s - f + 9))

-- a run of a pass that begins with f
pub record Part (st : List ℕ) (f : ℕ) (r : Run) : Type 0 where
  pub ordered : r.from ≤ r.to
  pub run : InRing st r
  pub from : f ≤ r.from
  pub near : r.to - f ≤ ring_size st

-- t says whether they pass; if they do, the marks l and the newest places w are l' and w' behind them
pub record Passed (steps m : ℕ) (st : List ℕ) (f s e : ℕ) (l l' : List (List ℕ)) (w w' : List ℕ) (t : Bool) : Type 0 where
  pub ok : t ≡ pass_ok steps m st f (e - s) s l
  pub behind : t ≡ true → (l' ≡ pass_marks steps st f (e - s) s l) × (w' ≡ seen_from st f (e - s) s w)
