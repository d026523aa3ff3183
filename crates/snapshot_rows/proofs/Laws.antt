-- The used marks one by one: how many they are, and the rows that they hold.
use Prim.Native.Nat.{ℕ, zero, suc, ◌+◌, ◌-◌, ◌*◌, ◌≤◌, ◌<◌}
use mathlib.Core.Path.{◌≡◌, refl, ap, ◌∙◌}
use mathlib.Core.Bool.{Bool, true, false, cond}
use mathlib.Core.List.{List, [], ◌∷◌, map}
use native.Mathlib.Numerals.{add-one}
use native.Mathlib.Omega.{arith}
use lib.Dec.{eqb, ltb}
use lib.ListN.{length, get_or, take, drop, length-append, length-map, drop_of_length-le}
use Rattle.std.specs.List.{position, position_or_len}
use Rattle.std.specs.Option.{unwrap_or}
use Rattle.std.specs.Prelude.{Option}
use lib.Seq.{drop-cons, take_all}
use borrow.Author.Tests.{lt-ltb, le-ltb, ltb-false, eqb-false}
use Rattle.spec.specs.Words.{bit, row}
use Rattle.spec.specs.Blocks.{flat_rows}
use Rattle.history.specs.Observations.{ring_size, base, numbered, checkpoint_at}
use Rattle.spec.proofs.Words.{by-test, one-more}
use Rattle.marks.specs.Marks.{place_in}
use Rattle.snapshot_rows.specs.Held.{row_of, used_places, item_places, marked_rows, held_by, held_count}

-- ---- one item's

-- the used marks are those before the first that has no place
abbrev pub vacant : ℕ → Bool
vacant x = eqb (place_in x) 0

used_take : (l : List ℕ) → map place_in (take (position_or_len vacant l) l) ≡ used_places l
unfolding used_places
used_take [] = refl
used_take (x ∷ xs) =
    let q : 1 + position_or_len vacant xs ≡ suc (position_or_len vacant xs) = omega arith in
    by-test (vacant x) (λ t. rw t) (λ t. rw (t, q) (ap (λ (y : List ℕ). place_in x ∷ y) (used_take xs)))

used_each : (l : List ℕ) (k : ℕ) → k < length (take (position_or_len vacant l) l)
    → 1 ≤ place_in (get_or (take (position_or_len vacant l) l) k 0)
used_each [] k h = absurd (omega arith)
used_each (x ∷ xs) zero h =
    let q : 1 + position_or_len vacant xs ≡ suc (position_or_len vacant xs) = omega arith in
    by-test (vacant x) (λ t. absurd (let z = rw t at h in omega arith))
    (λ t. rw (t, q) (let g = eqb-false (place_in x) 0 t in omega arith))
used_each (x ∷ xs) (suc k) h =
    let q : 1 + position_or_len vacant xs ≡ suc (position_or_len vacant xs) = omega arith in
    by-test (vacant x) (λ t. absurd (let z = rw t at h in omega arith))
    (λ t. rw (t, q) (used_each xs k (let z = rw (t, q) at h in omega arith)))

module _ (l : List ℕ) {r : Option ℕ} {n : ℕ} (er : r ≡ position vacant l) (en : n ≡ unwrap_or r 8) (h : length l ≡ 8)
  where
    cut : take n l ≡ take (position_or_len vacant l) l
    cut =
        let p = position_or_len vacant l in
        by-test (ltb p (length l))
        (λ t. rw (en, er, t))
        (λ t.
        let a = take_all 8 l (omega arith) in
        let b = take_all p l (ltb-false p (length l) t) in
        rw (en, er, t, a, b))

    pub used-is : map place_in (take n l) ≡ used_places l
    used-is = rw cut (used_take l)

    pub used-placed : (k : ℕ) → k < length (take n l) → 1 ≤ place_in (get_or (take n l) k 0)
    used-placed = rw cut (used_each l)

-- ---- all items

-- as many rows as used marks
count-from : (m : ℕ) (st : List ℕ) (f : ℕ) (l : List (List ℕ)) (selection k i : ℕ)
    → length (flat_rows (bit selection) (marked_rows m st f l) k i) ≡ held_count selection l k i
unfolding flat_rows held_count
count-from m st f l selection zero i = refl
count-from m st f l selection (suc k) i =
    let rest = flat_rows (bit selection) (marked_rows m st f l) k (suc i) in
    let more = count-from m st f l selection k (suc i) in
    by-test (bit selection i)
    (λ t.
    rw t
    (length-append (marked_rows m st f l i) rest
    ∙ rw (more, length-map (item_places l i) (row_of m st f i))))
    (λ t. rw (t, more))

pub held-length : (m : ℕ) (st : List ℕ) (f : ℕ) (l : List (List ℕ)) (selection : ℕ)
    → length (held_by m st f l selection) ≡ held_count selection l m 0
unfolding held_by
held-length m st f l selection = count-from m st f l selection m 0

-- a loop that counts those of m items
pub record Counting (m selection : ℕ) (l : List (List ℕ)) (k i : ℕ) : Type 0 where
  pub high : i ≤ m
  pub few : k ≤ 8 * i
  pub rest : held_count selection l m 0 ≡ k + held_count selection l (m - i) i

pub counting-start : (m selection : ℕ) (l : List (List ℕ)) → Counting m selection l 0 0
counting-start m selection l =
    let q : m - 0 ≡ m = omega arith in
    record { high = omega arith; few = omega arith; rest = rw q (omega arith) }

module _ {m selection : ℕ} {l : List (List ℕ)} {k i : ℕ} (v : Counting m selection l k i) where
  module _ (h : i < m) where
    count_next : held_count selection l (m - i) i
        ≡ cond (bit selection i) (length (item_places l i) + held_count selection l (m - (i + 1)) (i + 1))
        (held_count selection l (m - (i + 1)) (i + 1))
    unfolding held_count
    count_next = rw (one-more i m h, add-one i)

    pub counting_more : (u : List ℕ) → bit selection i ≡ true → map place_in u ≡ item_places l i → length u ≤ 8
        → Counting m selection l (k + length u) (i + 1)
    counting_more u b e g =
        let n : held_count selection l (m - i) i ≡ length (item_places l i) + held_count selection l (m - (i + 1))
        (i + 1) =
        count_next ∙ rw b in
        let c : length u ≡ length (item_places l i) = rw (← e, length-map u place_in) in
        record { high = omega arith; few = omega (arith, v.few); rest = omega (arith, v.rest, n, c) }

    pub counting-skip : bit selection i ≡ false → Counting m selection l k (i + 1)
    counting-skip b =
        let n : held_count selection l (m - i) i ≡ held_count selection l (m - (i + 1)) (i + 1) = count_next ∙ rw b in
        record { high = omega arith; few = omega (arith, v.few); rest = omega (arith, v.rest, n) }

  pub counting-end : m ≤ i → (k ≡ held_count selection l m 0) × (k ≤ 8 * m)
  unfolding held_count
  counting-end h =
      let q : m - i ≡ 0 = omega arith in
      let n : held_count selection l (m - i) i ≡ 0 = rw q in
      (omega (arith, v.rest, n), omega (arith, v.few))

-- ---- the row of a place

module _ (m : ℕ) (st : List ℕ) (f i p : ℕ) where
  pub row-table : {t : ℕ} {r : List ℕ} → t ≡ checkpoint_at (ring_size st) m → p < 9
      → row st t (8 * m) (8 * i + (p - 1)) 3 ≡ r → row_of m st f i p ≡ r
  row-table et h e = rw (lt-ltb p 9 h, ← et) e

  pub row-ring : {r : List ℕ} → 9 ≤ p → numbered (ring_size st) (base st) st (f + (p - 9)) ≡ r → row_of m st f i p ≡ r
  row-ring h e = rw (le-ltb p 9 h) e

-- ---- an item's rows, where its used marks are those of u, from the j-th on

abbrev pub rows_from : ℕ → List ℕ → ℕ → ℕ → List ℕ → ℕ → List (List ℕ)
rows_from m st f i u j = map (row_of m st f i) (map place_in (drop j u))

module _ (m : ℕ) (st : List ℕ) (f i : ℕ) (u : List ℕ) (j : ℕ) where
  pub rows_more : {p : ℕ} → j < length u → p ≡ place_in (get_or u j 0)
      → rows_from m st f i u j ≡ row_of m st f i p ∷ rows_from m st f i u (j + 1)
  rows_more h e = rw (drop-cons u j 0 h, e, add-one j)

  pub rows_end : length u ≤ j → rows_from m st f i u j ≡ []
  rows_end h = rw (drop_of_length-le u {i = j} h)
