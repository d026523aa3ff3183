-- What a pass over the numbers of a sample gives, and rows written into a buffer.
use Rattle.std.specs.Prelude.{ℕ, ◌+◌, ◌-◌, ◌%◌, ◌≤◌, ◌<◌, ◌≡◌, Bool, cond, List, Option, Some, None, length}
use Rattle.std.proofs.lemmas.List.Edits.{sets}
use Rattle.history.specs.Observations.{ring_size, base, ring_ok, sample_rows}
use Rattle.spec.specs.Reply.{numbers, pairs}
use Rattle.rows.specs.declared.Run.{Run}

-- of the numbers from f up to e: Store's test that each has an item of the model, and the rows of those that are
-- selected
abbrev pub items_ok : ℕ → List ℕ → ℕ → ℕ → Bool
items_ok m st f e = ring_ok (ring_size st) m (base st) st (e - f) f

abbrev pub sampled : List ℕ → ℕ → ℕ → ℕ → List (List ℕ)
sampled st selection f e = sample_rows (ring_size st) (base st) st selection (e - f) f

-- how many rows there are; none is given where the test fails
unfoldable pub counted : ℕ → List ℕ → ℕ → ℕ → ℕ → Option ℕ
counted m st selection f e = cond (items_ok m st f e) (Some (length (sampled st selection f e))) None

-- rows into a buffer: their numbers from word c on, their pairs of time and packed word from word a on
abbrev pub rows_at : List ℕ → ℕ → ℕ → List (List ℕ) → List ℕ
rows_at out c a rows = sets (sets out c (numbers rows)) a (pairs rows)

-- k rows from the buffer's first word on: k numbers, then k pairs
abbrev pub rows_into : List ℕ → ℕ → List (List ℕ) → List ℕ
rows_into out k rows = rows_at out 0 k rows

-- the numbers from s up to e stand in the ring from place q on, without a wrap
pub record Unwrapped (N B e s q : ℕ) : Type 0 where
  pub low : B ≤ s
  pub is : s < e → q ≡ (s - B) % N
  pub room : q + (e - s) ≤ N

-- those of a run do in the ring of st
abbrev pub InRing : List ℕ → Run → Type 0
InRing st r = Unwrapped (ring_size st) (base st) r.to r.from r.place

-- the numbers from f up to e are at most a ring of them, and none is below the base
abbrev pub RingRange : List ℕ → ℕ → ℕ → Type 0
RingRange st f e = (base st ≤ f) × ((f ≤ e) × (e - f ≤ ring_size st))

-- the numbers from f up to e in two runs: up to the ring's end at most, then from place 0 on
pub record TwoRuns (N B f e : ℕ) (a b : Run) : Type 0 where
  pub begins : a.from ≡ f
  pub meets : b.from ≡ a.to
  pub ends : b.to ≡ e
  pub start : b.place ≡ 0
  pub low : f ≤ a.to
  pub high : a.to ≤ e
  pub front : Unwrapped N B a.to a.from a.place
  pub back : Unwrapped N B b.to b.from b.place
