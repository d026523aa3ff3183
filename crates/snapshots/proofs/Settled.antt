-- The selected items that are no condition items: each one's newest place behind the pass, and its mark.
use Prim.Native.Nat.{ℕ, zero, suc, ◌+◌, ◌-◌, ◌*◌, ◌≤◌, ◌<◌}
use mathlib.Core.Path.{◌≡◌, refl, sym, ap, ◌∙◌}
use mathlib.Core.Bool.{Bool, true, false, cond, ◌&&◌, not}
use mathlib.Core.List.{List, [], ◌∷◌, map}
use native.Mathlib.Numerals.{add-one}
use native.Mathlib.Omega.{arith}
use lib.Dec.{eqb, ltb, lit<}
use lib.ListN.{length, get_or, set, replicate, length-set}
use lib.Seq.{get_or-set_same, get_or-set_other, set_out}
use borrow.Author.Tests.{ne_eqb, eqb-true, eqb-false, ltb-true, ltb-false}
use Rattle.spec.specs.Words.{bit, row}
use Rattle.spec.specs.Value.{item_of}
use Rattle.history.specs.Observations.{ring_size, base, item_at, numbered, checkpoint_at, item_row, newest_in, if_used}
use Rattle.spec.proofs.Words.{by-test, one-more, none-left}
use Rattle.marks.specs.Marks.{mark_of, eight_of}
use Rattle.marks.proofs.Keys.{mark-place}
use Rattle.snapshot_rows.specs.Held.{row_of, used_places}
use Rattle.picks.specs.Pass.{word_of, seen_from}
use Rattle.snapshots.specs.Snapshots.{plain_place, settled}
use Rattle.picks.proofs.Eights.{eight-same, eight-other}
use mir.Val.{bool_byte}
use Rattle.snapshots.proofs.Held.{ring-row}

-- ---- the newest places

-- none is above n
abbrev pub NoneAbove : ℕ → List ℕ → Type 0
NoneAbove n w = (i : ℕ) → get_or w i 0 ≤ n

pub zeros-low : (n k : ℕ) → NoneAbove n (replicate k 0)
zeros-low n zero i = omega arith
zeros-low n (suc k) zero = omega arith
zeros-low n (suc k) (suc i) = zeros-low n k i

set-low : (n : ℕ) (w : List ℕ) (j x : ℕ) → x ≤ n → NoneAbove n w → NoneAbove n (set w j x)
set-low n w j x h v i =
    by-test (eqb i j)
    (λ t.
    by-test (ltb j (length w))
    (λ b. rw (eqb-true i j t, get_or-set_same w j x 0 (ltb-true j (length w) b)) h)
    (λ b. rw (set_out w j x (ltb-false j (length w) b)) (v i)))
    (λ t. rw (get_or-set_other w j i x 0 (eqb-false i j t)) (v i))

pub seen_low : (st : List ℕ) (f n k s : ℕ) (w : List ℕ) → s + k - f + 9 ≤ n → NoneAbove n w
    → NoneAbove n (seen_from st f k s w)
unfolding seen_from
seen_low st f n zero s w h v = v
seen_low st f n (suc k) s w h v =
    seen_low st f n k (suc s) (set w (item_of (word_of st s)) (s - f + 9)) (omega arith)
    (set-low n w (item_of (word_of st s)) (s - f + 9) (omega arith) v)

-- the row of a place, none of place 0
abbrev pub place_rows : ℕ → List ℕ → ℕ → ℕ → ℕ → List (List ℕ)
place_rows m st f i p = cond (eqb p 0) [] (row_of m st f i p ∷ [])

module _ (m : ℕ) (st : List ℕ) (f i : ℕ) where
  abbrev first : List ℕ
  first = item_row st (checkpoint_at (ring_size st) m) m i

  -- item i's row, p being its newest place
  abbrev pub plain_rows : ℕ → List (List ℕ)
  plain_rows p = place_rows m st f i (plain_place first p)

  pub plain-first : plain_rows 0 ≡ if_used first
  plain-first =
      let q : 8 * i + 0 ≡ 8 * i = omega arith in
      by-test (eqb (get_or first 0 0) 0)
      (λ c. rw c)
      (λ c. rw c (ap (λ (x : ℕ). row st (checkpoint_at (ring_size st) m) (8 * m) x 3 ∷ []) q))

  plain-next : (s : ℕ) (w r : List ℕ) → i < length w → f ≤ s → 1 ≤ s → plain_rows (get_or w i 0) ≡ if_used r
      → plain_rows (get_or (set w (item_of (word_of st s)) (s - f + 9)) i 0)
      ≡ if_used (cond (eqb (item_at (ring_size st) (base st) st s) i) (numbered (ring_size st) (base st) st s) r)
  plain-next s w r g h p v =
      let j = item_of (word_of st s) in
      by-test (eqb j i)
      (λ t.
      rw (t, eqb-true j i t, get_or-set_same w i (s - f + 9) 0 g, ne_eqb (s - f + 9) 0 (omega arith))
      (rw (ring-row m st f i s h, ne_eqb (s - f + 9) 0 (omega arith), ne_eqb s 0 (omega arith))))
      (λ t. rw (t, get_or-set_other w j i (s - f + 9) 0 (λ e. eqb-false j i t (sym e))) v)

  pub plain_end : (k s : ℕ) (w r : List ℕ) → i < length w → f ≤ s → 1 ≤ s → plain_rows (get_or w i 0) ≡ if_used r
      → plain_rows (get_or (seen_from st f k s w) i 0) ≡ if_used (newest_in (ring_size st) (base st) st i k s r)
  unfolding seen_from newest_in
  plain_end zero s w r g h p v = v
  plain_end (suc k) s w r g h p v =
      let j = item_of (word_of st s) in
      plain_end k (suc s) (set w j (s - f + 9)) _ (rw (length-set w j (s - f + 9)) g) (omega arith) (omega arith)
      (plain-next s w r g h p v)

  -- of the mark that stands before zeros
  pub plain-marked : (p : ℕ)
      → map (row_of m st f i) (used_places (set (replicate 8 0) 0 (mark_of p 0))) ≡ place_rows m st f i p
  unfolding used_places
  plain-marked p = rw (mark-place p 0 (lit< tt)) (by-test (eqb p 0) (λ t. rw t) (λ t. rw t))

-- a place as it is told, r being the first row of the checkpoint
module _ (r : List ℕ) (p : ℕ) where
  pub place-seen : (p ≡ 0 → ⊥) → (p ≡ plain_place r p) × (p ≤ p + 1)
  place-seen n = (rw (ne_eqb p 0 n), omega arith)

  module _ {x y z : ℕ} (e : r ≡ x ∷ y ∷ z ∷ []) (n : p ≡ 0) where
    pub place-first : {v : ℕ} → v ≡ bool_byte (not (eqb x 0)) → (v ≡ plain_place r p) × (v ≤ p + 1)
    place-first {v} h = go (eqb x 0) refl h
      where
        go : (t : Bool) → eqb x 0 ≡ t → v ≡ bool_byte (not (eqb x 0)) → (v ≡ plain_place r p) × (v ≤ p + 1)
        go true q k = let z : v ≡ 0 = k ∙ rw q in (rw (n, e, q, z), omega (arith, z))
        go false q k = let z : v ≡ 1 = k ∙ rw q in (rw (n, e, q, z), omega (arith, z))

-- ---- the marks

-- a selected item that is no condition item
abbrev pub settles : ℕ → ℕ → ℕ → Bool
settles selection steps i = bit selection i && not (bit steps i)

module _ (selection steps m : ℕ) (st w : List ℕ) where
  abbrev pub plain_mark : ℕ → ℕ
  plain_mark i = mark_of (plain_place (item_row st (checkpoint_at (ring_size st) m) m i) (get_or w i 0)) 0

  -- the marks behind item i
  abbrev pub settled_item : ℕ → List (List ℕ) → List (List ℕ)
  settled_item i l = cond (settles selection steps i) (set l i (set (eight_of l i) 0 (plain_mark i))) l

  length-item : (i : ℕ) (l : List (List ℕ)) → length (settled_item i l) ≡ length l
  length-item i l =
      by-test (settles selection steps i)
      (λ t. rw t (length-set l i (set (eight_of l i) 0 (plain_mark i))))
      (λ t. rw t)

  item-other : (i j : ℕ) (l : List (List ℕ)) → (i ≡ j → ⊥) → eight_of (settled_item i l) j ≡ eight_of l j
  item-other i j l n =
      by-test (settles selection steps i)
      (λ t. rw t (eight-other (set (eight_of l i) 0 (plain_mark i)) l j i n))
      (λ t. rw t)

  item-same : (i : ℕ) (l : List (List ℕ)) → settles selection steps i ≡ true → i < length l
      → eight_of (settled_item i l) i ≡ set (eight_of l i) 0 (plain_mark i)
  item-same i l t h = rw t (eight-same (set (eight_of l i) 0 (plain_mark i)) l i h)

  settled-below : (k j : ℕ) (l : List (List ℕ)) (i : ℕ) → i < j
      → eight_of (settled selection steps m st w k j l) i ≡ eight_of l i
  unfolding settled
  settled-below zero j l i h = refl
  settled-below (suc k) j l i h =
      settled-below k (suc j) (settled_item j l) i (omega arith) ∙ item-other j i l (λ e. omega arith)

  -- an item that settles
  pub settled_at : (k j : ℕ) (l : List (List ℕ)) (i : ℕ) → j ≤ i → i < j + k → i < length l
      → settles selection steps i ≡ true
      → eight_of (settled selection steps m st w k j l) i ≡ set (eight_of l i) 0 (plain_mark i)
  unfolding settled
  settled_at zero j l i h g n b = absurd (omega arith)
  settled_at (suc k) j l i h g n b =
      by-test (eqb j i)
      (λ t.
      let e : j ≡ i = eqb-true j i t in
      settled-below k (suc j) (settled_item j l) i (omega arith) ∙ rw e (item-same i l b n))
      (λ t.
      let e = eqb-false j i t in
      settled_at k (suc j) (settled_item j l) i (omega arith) (omega arith) (rw (length-item j l) n) b
      ∙ rw (item-other j i l e))

  -- the others' eight stay as they were
  pub settled-others : (k j : ℕ) (l : List (List ℕ)) (i : ℕ) → settles selection steps i ≡ false
      → eight_of (settled selection steps m st w k j l) i ≡ eight_of l i
  unfolding settled
  settled-others zero j l i b = refl
  settled-others (suc k) j l i b =
      settled-others k (suc j) (settled_item j l) i b
      ∙ by-test (eqb j i) (λ t. rw (eqb-true j i t, b)) (λ t. item-other j i l (eqb-false j i t))

-- ---- a loop over the items: l are the marks behind those below i; they were o
pub record Settling (selection steps m : ℕ) (st w : List ℕ) (o l : List (List ℕ)) (i : ℕ) : Type 0 where
  pub marks : settled selection steps m st w m 0 o ≡ settled selection steps m st w (m - i) i l

pub settling-start : (selection steps m : ℕ) (st w : List ℕ) (o : List (List ℕ))
    → Settling selection steps m st w o o 0
settling-start selection steps m st w o =
    let q : m - 0 ≡ m = omega arith in
    record { marks = rw q }

module _ {selection steps m : ℕ} {st w : List ℕ} {o l : List (List ℕ)} {i : ℕ}
    (v : Settling selection steps m st w o l i) where
  module _ (h : i < m) where
    settling-next : Settling selection steps m st w o (settled_item selection steps m st w i l) (i + 1)
    unfolding settled
    settling-next = record { marks = v.marks ∙ rw (one-more i m h, add-one i) }

    -- item i doesn't settle
    pub settling-skip : settles selection steps i ≡ false → Settling selection steps m st w o l (i + 1)
    settling-skip b = rw b at settling-next

    pub settling-more : {t p x : ℕ} → settles selection steps i ≡ true → t ≡ checkpoint_at (ring_size st) m
        → p ≡ plain_place (item_row st t m i) (get_or w i 0) → x ≡ mark_of p 0
        → Settling selection steps m st w o (set l i (set (eight_of l i) 0 x)) (i + 1)
    settling-more b et ep ex = rw (ex, ep, et) (rw b at settling-next)

  pub settling-end : m ≤ i → l ≡ settled selection steps m st w m 0 o
  unfolding settled
  settling-end h = sym (v.marks ∙ rw (none-left i m h))
