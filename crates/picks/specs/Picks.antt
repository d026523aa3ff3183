-- Numbers picked out of a block.
use Rattle.std.specs.Prelude.{ℕ, zero, suc, ◌+◌, ◌-◌, ◌<◌, ◌≡◌, Bool, true, cond, ◌&&◌, List, [], ◌∷◌, eqb, length}
use Rattle.spec.specs.Words.{bit}
use Rattle.spec.specs.Value.{item_of}
use Rattle.history.specs.Observations.{ring_size, base, place}
use Rattle.rows.specs.declared.Run.{Run}
use Rattle.picks.specs.Pass.{stepped_at, fits, word_of, seen_from}

-- as many as are looked through at a time: a pick is below it, and it is none itself
abbrev pub block : ℕ
block = 191

-- how far from s on the k numbers from s + j on stand that are condition items'
unfoldable pub picked : ℕ → List ℕ → ℕ → ℕ → ℕ → List ℕ
picked steps st s zero j = []
picked steps st s (suc k) j =
    let js = picked steps st s k (suc j) in
    cond (bit steps (item_of (word_of st (s + j)))) (j ∷ js) js

-- the picks that stand in a list before the first that is none
unfoldable pub listed : List ℕ → List ℕ
listed [] = []
listed (x ∷ xs) =
    let js = listed xs in
    cond (eqb x block) [] (x ∷ js)

-- of a run's numbers: those picked stand in ps, and the newest places w are w' behind all
pub record Gathered (steps : ℕ) (st : List ℕ) (f : ℕ) (r : Run) (w w' ps : List ℕ) : Type 0 where
  pub seen : w' ≡ seen_from st f (r.to - r.from) r.from w
  pub picks : listed ps ≡ picked steps st r.from (r.to - r.from) 0
  pub ended : length (listed ps) < length ps

-- the number that is j from a run's first on has an item of the model, and stands in the ring j places on
pub record Pick (m : ℕ) (st : List ℕ) (f : ℕ) (r : Run) (j : ℕ) : Type 0 where
  pub at : r.place + j ≡ place (ring_size st) (base st) (r.from + j)
  pub inside : r.place + j < ring_size st
  pub near : r.from + j - f < ring_size st
  pub item : item_of (word_of st (r.from + j)) < m

-- the marks behind number s
abbrev pub number_at : List ℕ → ℕ → ℕ → List (List ℕ) → List (List ℕ)
number_at st f s l = stepped_at (item_of (word_of st s)) (s - f + 9) (word_of st s) l

-- behind those that are js from s on; none is a ninth entry
unfoldable pub pick_marks : List ℕ → ℕ → ℕ → List ℕ → List (List ℕ) → List (List ℕ)
pick_marks st f s [] l = l
pick_marks st f s (j ∷ js) l = pick_marks st f s js (number_at st f (s + j) l)

unfoldable pub pick_ok : List ℕ → ℕ → ℕ → List ℕ → List (List ℕ) → Bool
pick_ok st f s [] l = true
pick_ok st f s (j ∷ js) l =
    fits (item_of (word_of st (s + j))) (word_of st (s + j)) l && pick_ok st f s js (number_at st f (s + j) l)
