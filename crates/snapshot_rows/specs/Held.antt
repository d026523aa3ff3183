-- The rows that marks hold, eight of each item.
use Rattle.std.specs.Prelude.{ℕ, zero, suc, ◌+◌, ◌-◌, ◌*◌, ◌≤◌, cond, List, [], ◌∷◌, map, ltb, eqb, length}
use Rattle.spec.specs.Words.{bit, row}
use Rattle.spec.specs.Blocks.{flat_rows}
use Rattle.history.specs.Observations.{ring_size, base, last, numbered, checkpoint_at}
use Rattle.marks.specs.Marks.{place_in, eight_of}

-- a pass's first number: one that the store has given from its base on, or the next
abbrev pub PassStart : List ℕ → ℕ → Type 0
PassStart st f = (base st ≤ f) × (f ≤ suc (last st))

-- item i's entry at a place: of its checkpoint up to 8, of the ring behind them
abbrev pub row_of : ℕ → List ℕ → ℕ → ℕ → ℕ → List ℕ
row_of m st f i place =
    cond (ltb place 9)
    (row st (checkpoint_at (ring_size st) m) (8 * m) (8 * i + (place - 1)) 3)
    (numbered (ring_size st) (base st) st (f + (place - 9)))

-- the places of the used marks
unfoldable pub used_places : List ℕ → List ℕ
used_places [] = []
used_places (x ∷ xs) =
    let u = used_places xs in
    cond (eqb (place_in x) 0) [] (place_in x ∷ u)

-- item i's rows, of its eight marks
abbrev pub eight_rows : ℕ → List ℕ → ℕ → ℕ → List ℕ → List (List ℕ)
eight_rows m st f i ms = map (row_of m st f i) (used_places ms)

-- of item i, among the marks of all
abbrev pub item_places : List (List ℕ) → ℕ → List ℕ
item_places l i = used_places (eight_of l i)

abbrev pub marked_rows : ℕ → List ℕ → ℕ → List (List ℕ) → ℕ → List (List ℕ)
marked_rows m st f l i = eight_rows m st f i (eight_of l i)

-- of the selected items
unfoldable pub held_by : ℕ → List ℕ → ℕ → List (List ℕ) → ℕ → List (List ℕ)
held_by m st f l selection = flat_rows (bit selection) (marked_rows m st f l) m 0

-- how many marks the selected ones of k items from i on use
unfoldable pub held_count : ℕ → List (List ℕ) → ℕ → ℕ → ℕ
held_count selection l zero i = 0
held_count selection l (suc k) i =
    let r = held_count selection l k (suc i) in
    cond (bit selection i) (length (item_places l i) + r) r
