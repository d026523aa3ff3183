-- A reply's length, a value's word and a packed word, as the code tests them.
use Rattle.std.specs.Prelude.{Option, Some, None, MatchOption}
use Prim.Native.Nat.{ℕ, suc, ◌+◌, ◌*◌, ◌/◌, ◌%◌, ◌^◌, ◌≤◌, ◌<◌}
use mathlib.Core.Path.{◌≡◌, refl, sym, ap, ◌∙◌}
use mathlib.Core.Logic.{◌≢◌}
use mathlib.Core.Bool.{Bool, true, false, ◌&&◌, ◌||◌, not}
use mathlib.Core.List.{List}
use native.Mathlib.Omega.{arith}
use lib.Dec.{leb, eqb}
use lib.ListN.{length, get_or}
use borrow.Author.Tests.{leb-true, le-leb, lt-leb, lt-ltb, le-ltb, ne_eqb, eqb-true}
use Rattle.std.specs.List.{list_all, range_with_len}
use Rattle.model.proofs.Laws.{range-every}
use Rattle.spec.specs.Value.{item_of}
use Rattle.spec.specs.Model.{max_items, items, category}
use Rattle.spec.specs.Reply.{rows_of}
use Rattle.spec.proofs.Words.{and_left, and_right}
use Rattle.std.specs.Cmp.{both_ways}
use Rattle.lines.specs.Stamps.{max_time}
use Rattle.streams.specs.Streams.{group_of, word_ok, packed_ok, all_rows, words_ok, reply_ok, times_ok}
use Rattle.streams.proofs.Rows.{row_at, row_number, row-time, row-packed, rows-every}

-- ---- the reply's length

module _ (reply : List ℕ) where
  pub words_length : words_ok reply ≡ true → 4 + 3 * get_or reply 0 0 ≤ length reply
  words_length e = leb-true _ _ (and_right (leb 4 (length reply)) _ e)

-- ---- a value's word

module _ (c word : ℕ) where
  pub word_none : word ≡ 0 → eqb word 0 ≡ word_ok c word
  unfolding word_ok
  word_none e = rw e refl

  -- a word that is not 0 is no Unavailable
  other : word ≢ 0 → eqb (word / 2 ^ 32) 0 && eqb (word % 2 ^ 32) 0 ≡ false
  other n = go (eqb (word / 2 ^ 32) 0) refl
    where
      go : (b : Bool) → eqb (word / 2 ^ 32) 0 ≡ b → b && eqb (word % 2 ^ 32) 0 ≡ false
      go true e =
          let z = eqb-true (word / 2 ^ 32) 0 e in
          ne_eqb (word % 2 ^ 32) 0 (λ r. n (omega arith))
      go false e = refl

  -- the kind of Samples, and of Events
  pub word-kind : (g : ℕ) → g ≡ group_of c → g < 2 → word ≢ 0 → eqb (word / 2 ^ 32) (suc g) ≡ word_ok c word
  unfolding word_ok
  word-kind g e h n = rw (other n, ← e) (go (word / 2 ^ 32) g _ h)
    where
      go : (k g : ℕ) (t : Bool) → g < 2 → eqb k (suc g) ≡ eqb k (suc g) && (not (eqb k 3) || t)
      go k g t h =
          both_ways (eqb k (suc g)) (eqb k (suc g) && (not (eqb k 3) || t))
          (λ e. rw (e, ne_eqb k 3 (λ q. omega (arith, eqb-true k (suc g) e))))
          (λ e. and_left _ _ e)

  -- a condition's kind and its level, as one number
  pub word-level : 2 ≡ group_of c → word ≢ 0 → {b : Bool}
      → b ≡ leb 768 (word / 2 ^ 24) && leb (word / 2 ^ 24) 770 → b ≡ word_ok c word
  unfolding word_ok
  word-level e n f =
      f ∙ rw (other n, ← e) (go (word / 2 ^ 24) (word / 2 ^ 32) (word % 2 ^ 32 / 2 ^ 24)
      (λ h g. (omega arith, omega arith)) (λ h g. (omega arith, omega arith)))
    where
      go : (q k r : ℕ) → (768 ≤ q → q ≤ 770 → (k ≡ 3) × (r ≤ 2)) → (k ≡ 3 → r ≤ 2 → (768 ≤ q) × (q ≤ 770))
          → leb 768 q && leb q 770 ≡ eqb k 3 && (not (eqb k 3) || leb r 2)
      go q k r f g =
          both_ways _ _
          (λ e.
          let h = f (leb-true 768 q (and_left (leb 768 q) _ e)) (leb-true q 770 (and_right (leb 768 q) _ e)) in
          rw (h.0, le-leb r 2 h.1) refl)
          (λ e.
          let a = eqb-true k 3 (and_left (eqb k 3) _ e) in
          let h = g a (leb-true r 2 (rw a at (and_right (eqb k 3) _ e))) in
          rw (le-leb 768 q h.0, le-leb q 770 h.1) refl)

-- ---- a packed word

-- by the category of its item, where the model has that
pub category-tested : (model : List ℕ) (word j : ℕ) → j ≡ item_of word → (o : Option ℕ)
    → MatchOption o (items model ≤ j) (λ k. (k ≡ category model j) × (j < items model) × (items model ≤ max_items))
    → (t : Bool) (P : ℕ → Type 0) → MatchOption o (t ≡ false) P → ((k : ℕ) → P k → t ≡ word_ok k (word % 2 ^ 40))
    → t ≡ packed_ok model word
unfolding packed_ok
category-tested model word j ej None h t P g f = g ∙ rw (← ej, le-ltb j (items model) h) refl
category-tested model word j ej (Some k) h t P g f = f k g ∙ rw (← ej, lt-ltb j (items model) h.1, h.0) refl

-- ---- the words of row i, where the code finds them

module _ (reply : List ℕ) (i n : ℕ) (h : i < get_or reply 0 0) where
  pub number_at : n ≡ 4 + i → get_or reply n 0 ≡ get_or (row_at reply i) 0 0
  number_at e = ap (λ (x : ℕ). get_or reply x 0) e ∙ sym (row_number reply i h)

  pub time-at : n ≡ 4 + (get_or reply 0 0 + 2 * i) → get_or reply n 0 ≡ get_or (row_at reply i) 1 0
  time-at e = ap (λ (x : ℕ). get_or reply x 0) e ∙ sym (row-time reply i h)

  pub packed-at : n ≡ 4 + (get_or reply 0 0 + (2 * i + 1)) → get_or reply n 0 ≡ get_or (row_at reply i) 2 0
  packed-at e = ap (λ (x : ℕ). get_or reply x 0) e ∙ sym (row-packed reply i h)

-- ---- all rows

-- a test of a row's three words
abbrev pub tested : (ℕ → ℕ → ℕ → Bool) → List ℕ → Bool
tested p x = p (get_or x 0 0) (get_or x 1 0) (get_or x 2 0)

-- the library's test of all places is that of all rows
pub rows-all : (p : List ℕ → Bool) (reply : List ℕ) (k : ℕ) → k ≡ get_or reply 0 0
    → list_all (λ i. p (row_at reply i)) (range_with_len 0 k) ≡ all_rows p (rows_of reply)
rows-all p reply k e = range-every (λ i. p (row_at reply i)) k 0 ∙ rw e (sym (rows-every p reply))

-- ---- the two refusals

module _ (model reply : List ℕ) where
  pub reply-words : reply_ok model reply ≡ true → words_ok reply ≡ true
  unfolding reply_ok
  reply-words h = and_left (words_ok reply) _ h

  pub reply-short : words_ok reply ≡ false → false ≡ reply_ok model reply
  unfolding reply_ok
  reply-short e = rw e

  pub reply-tested : words_ok reply ≡ true → {t : Bool}
      → t ≡ all_rows (λ r. packed_ok model (get_or r 2 0)) (rows_of reply) → t ≡ reply_ok model reply
  unfolding reply_ok
  reply-tested e g = rw e g

module _ (creation : ℕ) (reply : List ℕ) where
  pub made-late : max_time < creation → false ≡ times_ok creation reply
  unfolding times_ok
  made-late h = rw (lt-leb creation max_time h)

  pub times-tested : creation ≤ max_time → {t : Bool}
      → t ≡ all_rows (λ r. leb (get_or r 1 0) max_time) (rows_of reply) → t ≡ times_ok creation reply
  unfolding times_ok
  times-tested h g = rw (le-leb creation max_time h) g
