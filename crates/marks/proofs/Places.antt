-- Marks beside the entries that they are of: how many, which are used, and the place of a code.
use mathlib.Core.Path.{◌≡◌, refl, ap}
use mathlib.Core.Bool.{true, false, cond, not, true≢false, false≢true}
use Prim.Native.Nat.{ℕ, zero, suc, ◌≤◌, ◌<◌}
use native.Mathlib.Omega.{arith}
use mathlib.Core.List.{List, [], ◌∷◌}
use lib.Dec.{eqb, eqb-suc-zero, eqb-zero-suc}
use lib.ListN.{length, get_or, replicate}
use borrow.Author.Tests.{ne_eqb, lt-ltb, le-ltb, ltb-true, ltb-false}
use Rattle.spec.specs.Entries.{active, active_as, code_field, packed, any_entry, has_code, any_active}
use Rattle.spec.proofs.Words.{by-test}
use Rattle.spec.proofs.Steps.{Formed, first-tells}
use Rattle.std.specs.Prelude.{nat_lt}
use Rattle.marks.specs.Marks.{key_in, key_of, key_place, free_place, place_of}
use Rattle.marks.specs.Marked.{Marked}
use Rattle.marks.proofs.Keys.{key-active, key-idle, key-eqb, place-max}

module _ (own : ℕ) where
  pub marked-length : (es : List (List ℕ)) (ms : List ℕ) → Marked own es ms → length es ≤ length ms
  marked-length [] ms m = omega arith
  marked-length (e ∷ es) [] m = absurd m
  marked-length (e ∷ es) (x ∷ xs) m = omega (arith, marked-length es xs m.2)

  -- the mark of an entry isn't 0; the others are
  pub mark-used : (es : List (List ℕ)) (ms : List ℕ) (i : ℕ) → Marked own es ms → i < length es → 0 < get_or ms i 0
  mark-used [] ms i m h = absurd (omega arith)
  mark-used (e ∷ es) [] i m h = absurd m
  mark-used (e ∷ es) (x ∷ xs) zero m h = m.0
  mark-used (e ∷ es) (x ∷ xs) (suc i) m h = mark-used es xs i m.2 (omega arith)

  pub mark-free : (es : List (List ℕ)) (ms : List ℕ) (i : ℕ) → Marked own es ms → length es ≤ i → get_or ms i 0 ≡ 0
  mark-free [] [] i m h = refl
  mark-free [] (x ∷ xs) zero m h = m.0
  mark-free [] (x ∷ xs) (suc i) m h = mark-free [] xs i m.1 (omega arith)
  mark-free (e ∷ es) [] i m h = refl
  mark-free (e ∷ es) (x ∷ xs) zero m h = absurd (omega arith)
  mark-free (e ∷ es) (x ∷ xs) (suc i) m h = mark-free es xs i m.2 (omega arith)

  -- no mark of none has a key
  key-none : (c : ℕ) (xs : List ℕ) → Marked own [] xs → key_place (suc c) xs ≡ length xs
  unfolding key_place
  key-none c [] m = refl
  key-none c (x ∷ xs) m = rw (m.0, eqb-zero-suc c) (ap suc (key-none c xs m.1))

  pub place-free : (c x : ℕ) (xs : List ℕ) → Marked own [] (x ∷ xs) → place_of (suc c) (x ∷ xs) ≡ 0
  unfolding place_of free_place
  place-free c x xs m = rw (key-none c (x ∷ xs) m, le-ltb (length (x ∷ xs)) (length (x ∷ xs)) (omega arith), m.0)

  module _ (c : ℕ) (e : List ℕ) (x : ℕ) (xs : List ℕ) (p : 0 < x) (k : key_in x ≡ key_of own (packed e)) where
    key-used : key_place (suc c) (x ∷ xs) ≡ cond (active_as own c (packed e)) 0 (suc (key_place (suc c) xs))
    unfolding key_place
    key-used = rw (k, key-eqb own c (packed e))

    free-used : free_place (x ∷ xs) ≡ suc (free_place xs)
    unfolding free_place
    free-used = rw (ne_eqb x 0 (omega arith))

    pub place-used : place_of (suc c) (x ∷ xs) ≡ cond (active_as own c (packed e)) 0 (suc (place_of (suc c) xs))
    unfolding place_of
    place-used =
        rw (key-used, free-used)
        (by-test (active_as own c (packed e))
        (λ t. rw (t, lt-ltb 0 (length (x ∷ xs)) (omega arith)))
        (λ t.
        by-test (nat_lt (key_place (suc c) xs) (length xs))
        (λ h.
        let l = ltb-true (key_place (suc c) xs) (length xs) h in
        rw (t, h, lt-ltb (suc (key_place (suc c) xs)) (length (x ∷ xs)) (omega (arith, l))))
        (λ h.
        let l = ltb-false (key_place (suc c) xs) (length xs) h in
        rw (t, h, le-ltb (suc (key_place (suc c) xs)) (length (x ∷ xs)) (omega (arith, l))))))

-- marks of no entries
pub marked-zeros : (own n : ℕ) → Marked own [] (replicate n 0)
marked-zeros own zero = tt
marked-zeros own (suc n) = (refl, marked-zeros own n)

module _ (own c : ℕ) where
  -- the place of a code that is there is its entry's; of any other, behind the last
  pub place-has : (es : List (List ℕ)) (ms : List ℕ) → Marked own es ms → has_code own c es ≡ true
      → place_of (suc c) ms < length es
  unfolding any_entry
  place-has [] ms m h = absurd (false≢true h)
  place-has (e ∷ es) [] m h = absurd m
  place-has (e ∷ es) (x ∷ xs) m h =
      by-test (active_as own c (packed e))
      (λ t. rw (place-used own c e x xs m.0 m.1, t) (omega arith))
      (λ t. rw (place-used own c e x xs m.0 m.1, t) (omega (arith, place-has es xs m.2 (rw t at h))))

  pub place_none : (es : List (List ℕ)) (ms : List ℕ) → Marked own es ms → has_code own c es ≡ false
      → place_of (suc c) ms ≡ length es
  unfolding any_entry
  place_none [] [] m h = omega (arith, place-max (suc c) [])
  place_none [] (x ∷ xs) m h = place-free own c x xs m
  place_none (e ∷ es) [] m h = absurd m
  place_none (e ∷ es) (x ∷ xs) m h =
      by-test (active_as own c (packed e))
      (λ t. absurd (true≢false (rw t at h)))
      (λ t. rw (place-used own c e x xs m.0 m.1, t) (ap suc (place_none es xs m.2 (rw t at h))))

-- the first mark's key tells whether any entry is active
pub first-mark : (own : ℕ) (es : List (List ℕ)) (ms : List ℕ) → Formed own es → Marked own es ms
    → eqb (key_in (get_or ms 0 0)) 0 ≡ not (any_active own es)
unfolding any_entry
first-mark own [] ms f m = rw (mark-free own [] ms 0 m (omega arith))
first-mark own (e ∷ es) [] f m = absurd m
first-mark own (e ∷ es) (x ∷ xs) f m =
    by-test (active own (packed e))
    (λ a. rw (m.1, key-active own (packed e) a, first-tells own e es f, a) (eqb-suc-zero (code_field (packed e))))
    (λ a. rw (m.1, key-idle own (packed e) a, first-tells own e es f, a))
