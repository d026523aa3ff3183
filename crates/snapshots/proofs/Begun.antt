-- The marks that the checkpoints give: each condition item's eight, and what a loop that writes them knows.
use Prim.Native.Nat.{ℕ, zero, suc, ◌+◌, ◌-◌, ◌*◌, ◌≤◌, ◌<◌}
use mathlib.Core.Path.{◌≡◌, refl, sym, ap, ◌∙◌}
use mathlib.Core.Bool.{true, false, cond, ◌||◌, not}
use mathlib.Core.List.{List, [], ◌∷◌, map}
use native.Mathlib.Numerals.{add-one}
use native.Mathlib.Omega.{arith}
use lib.Dec.{eqb}
use lib.ListN.{length, get_or, set, drop, replicate, length-set, get_or-replicate}
use borrow.Author.Tests.{ne_eqb, eqb-true, eqb-false, lt-ltb}
use Rattle.spec.specs.Words.{bit, every, row}
use Rattle.spec.specs.Model.{max_items}
use Rattle.spec.specs.Blocks.{table_rows, padded, unused}
use Rattle.spec.specs.Entries.{each_row, zero_row, used_rows, form_ok, packed}
use Rattle.history.specs.Observations.{ring_size, checkpoint_at, item_rows}
use Rattle.spec.proofs.Words.{by-test, and_right, every-no, every-yes, every-end, one-more}
use Rattle.spec.proofs.Steps.{used-formed}
use Rattle.marks.specs.Marks.{mark_of, key_of, eight_of}
use Rattle.marks.proofs.Keys.{key-small, mark-place}
use Rattle.entries.specs.Forms.{marks_of}
use Rattle.entries.proofs.Marks.{length-marks, form-zeros, marks-of}
use Rattle.entries.proofs.Filling.{rows-many}
use Rattle.entries.proofs.Unused.{none-used}
use Rattle.snapshot_rows.specs.Held.{row_of}
use Rattle.snapshots.specs.Snapshots.{begun, forms_ok}
use Rattle.picks.proofs.Eights.{eight-same, eight-other}
use Rattle.snapshot_rows.proofs.Laws.{vacant}
use Rattle.snapshots.proofs.Held.{no_mark, row_in, Holding}

-- ---- a condition item's

-- the rows behind the used ones are zeros
abbrev Zeros : List (List ℕ) → Type 0
Zeros rs = each_row zero_row (drop (length (used_rows rs)) rs) ≡ true

zeros-none : (r : List ℕ) (rs : List (List ℕ)) → Zeros (r ∷ rs) → eqb (get_or r 0 0) 0 ≡ true
    → each_row zero_row rs ≡ true
unfolding each_row used_rows
zeros-none r rs h t = and_right (zero_row r) _ (rw t at h)

zeros-some : (r : List ℕ) (rs : List (List ℕ)) → Zeros (r ∷ rs) → eqb (get_or r 0 0) 0 ≡ false → Zeros rs
unfolding used_rows
zeros-some r rs h t = rw t at h

-- of rows of zeros
zeros-again : (rs : List (List ℕ)) → each_row zero_row rs ≡ true → Zeros rs
zeros-again rs h = rw (none-used rs h) h

module _ (own : ℕ) where
  first-placed : (place : ℕ) (rs : List (List ℕ)) → 1 ≤ place
      → map vacant (marks_of own place rs) ≡ map no_mark (marks_of own place rs)
  unfolding marks_of
  first-placed place [] p = refl
  first-placed place (r ∷ rs) p =
      let rest = first-placed (suc place) rs (omega arith) in
      by-test (eqb (get_or r 0 0) 0)
      (λ t. rw (t, rest))
      (λ t.
      let y = mark_of place (key_of own (packed r)) in
      let q = mark-place place (key_of own (packed r)) (key-small own (packed r)) in
      rw (t, q, ne_eqb place 0 (omega arith), ne_eqb y 0 (omega arith), rest))

module _ (m : ℕ) (st : List ℕ) (f i : ℕ) where
  first-row : (j : ℕ) → j < 8 → row_of m st f i (suc j) ≡ row st (checkpoint_at (ring_size st) m) (8 * m) (8 * i + j) 3
  first-row j h =
      let q : suc j - 1 ≡ j = omega arith in
      rw (lt-ltb (suc j) 9 (omega arith), q)

  first_rows_lem : (n j : ℕ) → j + n ≤ 8 → Zeros (table_rows st (checkpoint_at (ring_size st) m) (8 * m) n (8 * i + j))
      → map (row_in m st f i)
      (marks_of i (suc j) (table_rows st (checkpoint_at (ring_size st) m) (8 * m) n (8 * i + j)))
      ≡ padded n (used_rows (table_rows st (checkpoint_at (ring_size st) m) (8 * m) n (8 * i + j)))
  unfolding marks_of used_rows padded table_rows
  first_rows_lem zero j l h = refl
  first_rows_lem (suc n) j l h =
      let t = checkpoint_at (ring_size st) m in
      let r = row st t (8 * m) (8 * i + j) 3 in
      let rs = table_rows st t (8 * m) n (suc (8 * i + j)) in
      let e : 8 * i + suc j ≡ suc (8 * i + j) = omega arith in
      by-test (eqb (get_or r 0 0) 0)
      (λ c.
      let z = zeros-none r rs h c in
      rw c (ap (λ (y : List (List ℕ)). unused ∷ y) (rw (e, none-used rs z) at
      (first_rows_lem n (suc j) (omega arith) (rw e (zeros-again rs z))))))
      (λ c.
      let q = mark-place (suc j) (key_of i (packed r)) (key-small i (packed r)) in
      rw (c, q, ne_eqb (suc j) 0 (λ e. omega arith), first-row j (omega arith))
      (ap (λ (y : List (List ℕ)). r ∷ y)
      (rw e at (first_rows_lem n (suc j) (omega arith) (rw e (zeros-some r rs h c))))))

  -- the marks of a checkpoint in its written form hold its used entries
  pub first-holding : form_ok i 0 (item_rows st (checkpoint_at (ring_size st) m) m i) ≡ true
      → Holding m st f i (used_rows (item_rows st (checkpoint_at (ring_size st) m) m i))
      (marks_of i 1 (item_rows st (checkpoint_at (ring_size st) m) m i))
  first-holding h =
      let t = checkpoint_at (ring_size st) m in
      let rs = item_rows st t m i in
      let q : 8 * i + 0 ≡ 8 * i = omega arith in
      record {
        eight = length-marks i 1 rs ∙ rows-many st t (8 * m) 8 (8 * i);
        formed = used-formed i 0 rs h;
        marked = marks-of i 0 rs h;
        rows = rw q at (first_rows_lem 8 0 (omega arith) (rw q (form-zeros i 0 rs h)));
        placed = first-placed i 1 rs (omega arith);
      }

-- ---- all items

module _ (steps m : ℕ) (st : List ℕ) where
  abbrev marks_at : ℕ → List ℕ
  marks_at i = marks_of i 1 (item_rows st (checkpoint_at (ring_size st) m) m i)

  -- the marks behind item i
  abbrev pub begun_item : ℕ → List (List ℕ) → List (List ℕ)
  begun_item i l = cond (bit steps i) (set l i (marks_at i)) l

  pub length-item : (i : ℕ) (l : List (List ℕ)) → length (begun_item i l) ≡ length l
  length-item i l = by-test (bit steps i) (λ t. rw t (length-set l i (marks_at i))) (λ t. rw t)

  pub item-other : (i j : ℕ) (l : List (List ℕ)) → (i ≡ j → ⊥) → eight_of (begun_item i l) j ≡ eight_of l j
  item-other i j l n =
      by-test (bit steps i) (λ t. rw t (eight-other (marks_at i) l j i n)) (λ t. rw t)

  pub length-begun : (k j : ℕ) (l : List (List ℕ)) → length (begun steps m st k j l) ≡ length l
  unfolding begun
  length-begun zero j l = refl
  length-begun (suc k) j l = length-begun k (suc j) (begun_item j l) ∙ length-item j l

  begun-below : (k j : ℕ) (l : List (List ℕ)) (i : ℕ) → i < j → eight_of (begun steps m st k j l) i ≡ eight_of l i
  unfolding begun
  begun-below zero j l i h = refl
  begun-below (suc k) j l i h =
      begun-below k (suc j) (begun_item j l) i (omega arith) ∙ item-other j i l (λ e. omega arith)

  pub begun-at : (k j : ℕ) (l : List (List ℕ)) (i : ℕ) → j ≤ i → i < j + k → i < length l → bit steps i ≡ true
      → eight_of (begun steps m st k j l) i ≡ marks_at i
  unfolding begun
  begun-at zero j l i h g n b = absurd (omega arith)
  begun-at (suc k) j l i h g n b =
      by-test (eqb j i)
      (λ t.
      let e : j ≡ i = eqb-true j i t in
      begun-below k (suc j) (begun_item j l) i (omega arith)
      ∙ rw (e, b) (eight-same (marks_at i) l i n))
      (λ t.
      let e = eqb-false j i t in
      begun-at k (suc j) (begun_item j l) i (omega arith) (omega arith) (rw (length-item j l) n) b)

  -- another item's eight stay as they were
  pub begun-others : (k j : ℕ) (l : List (List ℕ)) (i : ℕ) → bit steps i ≡ false
      → eight_of (begun steps m st k j l) i ≡ eight_of l i
  unfolding begun
  begun-others zero j l i b = refl
  begun-others (suc k) j l i b =
      begun-others k (suc j) (begun_item j l) i b
      ∙ by-test (eqb j i) (λ t. rw (eqb-true j i t, b)) (λ t. item-other j i l (eqb-false j i t))

-- no item has a mark
abbrev pub no_marks : List (List ℕ)
no_marks = replicate max_items (replicate 8 0)

pub zeros-eight : (i : ℕ) → i < max_items → eight_of no_marks i ≡ replicate 8 0
zeros-eight i h = get_or-replicate {A = List ℕ} max_items i (replicate 8 0) [] h

-- ---- a loop over the items: l are the marks behind those below i; they were o
pub record Beginning (steps m : ℕ) (st : List ℕ) (o l : List (List ℕ)) (i : ℕ) : Type 0 where
  pub ok : forms_ok steps m st
      ≡ every (λ i. not (bit steps i) || form_ok i 0 (item_rows st (checkpoint_at (ring_size st) m) m i)) (m - i) i
  pub marks : begun steps m st m 0 o ≡ begun steps m st (m - i) i l

pub beginning-start : (steps m : ℕ) (st : List ℕ) (o : List (List ℕ)) → Beginning steps m st o o 0
unfolding forms_ok
beginning-start steps m st o = let q : m - 0 ≡ m = omega arith in record { ok = rw q; marks = rw q }

module _ {steps m : ℕ} {st : List ℕ} {o l : List (List ℕ)} {i : ℕ} (v : Beginning steps m st o l i) where
  module _ (h : i < m) where
    next : begun steps m st (m - i) i l ≡ begun steps m st (m - (i + 1)) (i + 1) (begun_item steps m st i l)
    unfolding begun
    next = rw (one-more i m h, add-one i)

    -- item i is no condition item
    pub beginning-skip : bit steps i ≡ false → Beginning steps m st o l (i + 1)
    beginning-skip b = record { ok = every-yes _ _ i m v.ok h (rw b); marks = v.marks ∙ (next ∙ rw b) }

    module _ (b : bit steps i ≡ true) where
      abbrev rows : List (List ℕ)
      rows = item_rows st (checkpoint_at (ring_size st) m) m i

      -- its form is broken
      pub beginning-broken : form_ok i 0 rows ≡ false → false ≡ forms_ok steps m st
      beginning-broken z = every-no _ _ i m v.ok h (rw (b, z))

      pub beginning-more : {ms : List ℕ} → form_ok i 0 rows ≡ true → ms ≡ marks_of i 1 rows
          → Beginning steps m st o (set l i ms) (i + 1)
      beginning-more {ms} z em =
          let q : begun_item steps m st i l ≡ set l i ms = rw (b, em) in
          record { ok = every-yes _ _ i m v.ok h (rw (b, z)); marks = v.marks ∙ rw (next, q) }

  pub beginning-end : m ≤ i → (true ≡ forms_ok steps m st) × (l ≡ begun steps m st m 0 o)
  unfolding begun
  beginning-end h =
      let q : m - i ≡ 0 = omega arith in
      (every-end _ _ i m v.ok h, sym (v.marks ∙ rw q))
