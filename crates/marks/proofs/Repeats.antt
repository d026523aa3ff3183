-- What eight marks tell of a packed word: Same and Crowded, as the definitions have them of the entries.
use mathlib.Core.Path.{◌≡◌, refl, sym, ap, ◌∙◌}
use mathlib.Core.Logic.{inl, inr}
use mathlib.Core.Bool.{true, false, not, true≢false, false≢true, or-false}
use Prim.Native.Nat.{ℕ, suc, ◌≤◌, ◌<◌}
use native.Mathlib.Omega.{arith}
use mathlib.Core.List.{List, [], ◌∷◌}
use lib.Dec.{eqb}
use lib.ListN.{length, get_or}
use borrow.Author.Tests.{eqb-true, eq-eqb, ne_eqb, le-leb, lt-leb, not-true, not-false}
use Rattle.spec.specs.Value.{pack}
use Rattle.spec.specs.declared.Value.TheVariants.{Unavailable}
use Rattle.spec.specs.Entries.{active, active_as, normal, code_field, packed, any_entry, has_code, any_active, holds}
use Rattle.spec.specs.Entries.{codes_differ, repeats_in, crowded}
use Rattle.spec.proofs.Words.{and_right, by-test}
use Rattle.spec.proofs.Steps.{Formed, formed-active, differ-first, differ-none, differ-rest}
use Rattle.spec.proofs.Steps.{holds-code, active-not-normal}
use Rattle.marks.specs.Marks.{key_in, key_of, place_of}
use Rattle.marks.specs.Marked.{Marked}
use Rattle.marks.proofs.Keys.{key-active}
use Rattle.marks.proofs.Places.{marked-length, mark-used, mark-free, first-mark}
use Rattle.marks.proofs.Places.{place-has, place_none, place-used}

-- ---- a code by its place

module _ (own c : ℕ) (es : List (List ℕ)) (ms : List ℕ) (m : Marked own es ms) where
  -- no mark has it, and none is free
  pub code-none : length ms ≡ 8 → place_of (suc c) ms ≡ 8 → has_code own c es ≡ false
  code-none l p =
      by-test (has_code own c es)
      (λ h. absurd (omega (arith, place-has own c es ms m h, marked-length own es ms m)))
      (λ h. h)

  -- the place is free
  pub code_free : get_or ms (place_of (suc c) ms) 0 ≡ 0 → has_code own c es ≡ false
  code_free p =
      by-test (has_code own c es)
      (λ h. absurd (omega (arith, mark-used own es ms (place_of (suc c) ms) m (place-has own c es ms m h))))
      (λ h. h)

  -- or taken
  pub code-there : (get_or ms (place_of (suc c) ms) 0 ≡ 0 → ⊥) → has_code own c es ≡ true
  code-there n =
      by-test (has_code own c es)
      (λ h. h)
      (λ h. absurd (n (mark-free own es ms (place_of (suc c) ms) m (omega (arith, place_none own c es ms m h)))))

-- ---- a packed word among entries

module _ (own word : ℕ) where
  holds-none : (es : List (List ℕ)) → active own word ≡ true → has_code own (code_field word) es ≡ false
      → holds word es ≡ false
  holds-none es a h =
      by-test (holds word es) (λ t. absurd (true≢false (sym (holds-code own word es a t) ∙ h))) (λ t. t)

  -- an active one's only place is its code's
  holds_at_lem : (es : List (List ℕ)) (ms : List ℕ) → codes_differ own es ≡ true → Marked own es ms → active own word ≡ true
      → has_code own (code_field word) es ≡ true
      → holds word es ≡ eqb (packed (get_or es (place_of (suc (code_field word)) ms) [])) word
  unfolding any_entry
  holds_at_lem [] ms d m a h = absurd (false≢true h)
  holds_at_lem (e ∷ es) [] d m a h = absurd m
  holds_at_lem (e ∷ es) (x ∷ xs) d m a h =
      by-test (active_as own (code_field word) (packed e))
      (λ t.
      let q : code_field (packed e) ≡ code_field word =
      eqb-true (code_field (packed e)) (code_field word) (and_right (active own (packed e)) _ t) in
      rw (
        place-used own (code_field word) e x xs m.0 m.1,
        t,
        holds-none es a (rw q at (differ-none own e es d)),
      )
      (or-false (eqb (packed e) word)))
      (λ t.
      let k : active_as own (code_field word) word ≡ true = rw (a, eq-eqb (code_field word) (code_field word) refl) in
      let n : eqb (packed e) word ≡ false = ne_eqb (packed e) word (λ q. true≢false (sym k ∙ (rw q at t))) in
      rw (place-used own (code_field word) e x xs m.0 m.1, t, n)
      (holds_at_lem es xs (differ-rest own e es d) m.2 a (rw t at h)))

  -- one that isn't active is in no entry that is
  holds-idle : (es : List (List ℕ)) → codes_differ own es ≡ true → active own word ≡ false → holds word es ≡ false
  unfolding any_entry
  holds-idle [] d a = refl
  holds-idle (e ∷ es) d a =
      let n : eqb (packed e) word ≡ false =
      ne_eqb (packed e) word (λ q. true≢false (sym (differ-first own e es d) ∙ rw q a)) in
      rw n (holds-idle es (differ-rest own e es d) a)

-- where some are active and it isn't, or none are, the first entry tells
first_holds : (own word : ℕ) (es : List (List ℕ)) → Formed own es → 1 ≤ length es
    → (any_active own es ≡ true → active own word ≡ false) → holds word es ≡ eqb (packed (get_or es 0 [])) word
unfolding any_entry
first_holds own word [] f s a = absurd (omega arith)
first_holds own word (e ∷ []) f s a = or-false (eqb (packed e) word)
first_holds own word (e ∷ g ∷ es) (inl h) s a = absurd (omega arith)
first_holds own word (e ∷ g ∷ es) (inr d) s a =
    let b : active own word ≡ false = a (rw (differ-first own e (g ∷ es) d)) in
    rw (holds-idle own word (g ∷ es) (differ-rest own e (g ∷ es) d) b) (or-false (eqb (packed e) word))

code-active : (own c : ℕ) (es : List (List ℕ)) → has_code own c es ≡ true → any_active own es ≡ true
unfolding any_entry
code-active own c [] h = absurd (false≢true h)
code-active own c (e ∷ es) h =
    by-test (active own (packed e))
    (λ a. rw a)
    (λ a. rw a (code-active own c es (rw a at h)))

-- ---- Same and Crowded

-- what isn't active is never a ninth
pub idle-fits : (own : ℕ) (es : List (List ℕ)) (word : ℕ) → active own word ≡ false → crowded own es word ≡ false
unfolding crowded
idle-fits own es word a = rw a

module _ (own : ℕ) (es : List (List ℕ)) (ms : List ℕ) (word : ℕ) (f : Formed own es) (m : Marked own es ms) where
  -- Warning or Fault: a ninth code
  pub raised-crowded : length ms ≡ 8 → active own word ≡ true → place_of (key_of own word) ms ≡ 8
      → (repeats_in own es word ≡ false) × (crowded own es word ≡ true)
  unfolding repeats_in crowded
  raised-crowded l a p =
      let q : place_of (suc (code_field word)) ms ≡ 8 = rw (key-active own word a) at p in
      let h = code-none own (code_field word) es ms m l q in
      let n : 8 ≤ length es = omega (arith, place_none own (code_field word) es ms m h) in
      (rw (active-not-normal own word a) (holds-none own word es a h), rw (a, h, le-leb 8 (length es) n))

  -- a new code, and room for it
  pub raised-new : active own word ≡ true → place_of (key_of own word) ms < 8
      → get_or ms (place_of (key_of own word) ms) 0 ≡ 0
      → (repeats_in own es word ≡ false) × (crowded own es word ≡ false)
  unfolding repeats_in crowded
  raised-new a p z =
      let q : place_of (suc (code_field word)) ms < 8 = rw (key-active own word a) at p in
      let h = code_free own (code_field word) es ms m (rw (key-active own word a) at z) in
      let n : length es < 8 = omega (arith, place_none own (code_field word) es ms m h) in
      (rw (active-not-normal own word a) (holds-none own word es a h), rw (a, h, lt-leb 8 (length es) n))

  -- a code that is there: the same where its entry is the word
  pub raised-there : active own word ≡ true → (get_or ms (place_of (key_of own word) ms) 0 ≡ 0 → ⊥)
      → (place_of (key_of own word) ms < length es)
      × (repeats_in own es word ≡ eqb (packed (get_or es (place_of (key_of own word) ms) [])) word)
      × (crowded own es word ≡ false)
  unfolding repeats_in crowded
  raised-there a z =
      let h = code-there own (code_field word) es ms m (rw (key-active own word a) at z) in
      let d = formed-active own es f (code-active own (code_field word) es h) in (
        rw (key-active own word a) (place-has own (code_field word) es ms m h),
        rw (active-not-normal own word a, key-active own word a) (holds_at_lem own word es ms d m a h),
        rw (a, h),
      )

  -- neither Warning, Fault nor Normal: the same where it is the first entry
  pub idle-first : 1 ≤ length es → active own word ≡ false → normal word ≡ false
      → repeats_in own es word ≡ eqb (packed (get_or es 0 [])) word
  unfolding repeats_in
  idle-first s a n = rw n (first_holds own word es f s (λ t. a))

  -- Normal of a code: the same where no entry has it
  pub normal-none : length ms ≡ 8 → normal word ≡ true → (code_field word ≡ 0 → ⊥)
      → place_of (suc (code_field word)) ms ≡ 8 → repeats_in own es word ≡ true
  unfolding repeats_in
  normal-none l n c p = rw (n, ne_eqb (code_field word) 0 c, code-none own (code_field word) es ms m l p)

  pub normal-free : normal word ≡ true → (code_field word ≡ 0 → ⊥) → get_or ms (place_of (suc (code_field word)) ms) 0 ≡ 0
      → repeats_in own es word ≡ true
  unfolding repeats_in
  normal-free n c z = rw (n, ne_eqb (code_field word) 0 c, code_free own (code_field word) es ms m z)

  pub normal-there : normal word ≡ true → (code_field word ≡ 0 → ⊥)
      → (get_or ms (place_of (suc (code_field word)) ms) 0 ≡ 0 → ⊥) → repeats_in own es word ≡ false
  unfolding repeats_in
  normal-there n c z = rw (n, ne_eqb (code_field word) 0 c, code-there own (code_field word) es ms m z)

  -- Normal of all: never the same where some are active, else unless Unavailable stands
  pub all-active : normal word ≡ true → code_field word ≡ 0 → (key_in (get_or ms 0 0) ≡ 0 → ⊥)
      → repeats_in own es word ≡ false
  unfolding repeats_in
  all-active n c k =
      let a : any_active own es ≡ true =
      not-false _ (sym (first-mark own es ms f m) ∙ ne_eqb (key_in (get_or ms 0 0)) 0 k) in
      rw (n, c, a)

  pub all-idle : 1 ≤ length es → normal word ≡ true → code_field word ≡ 0 → key_in (get_or ms 0 0) ≡ 0
      → repeats_in own es word ≡ not (eqb (packed (get_or es 0 [])) (pack own Unavailable))
  unfolding repeats_in
  all-idle s n c k =
      let a : any_active own es ≡ false =
      not-true _ (sym (first-mark own es ms f m) ∙ eq-eqb (key_in (get_or ms 0 0)) 0 k) in
      rw (n, c, a) (ap not (first_holds own (pack own Unavailable) es f s (λ t. absurd (true≢false (sym t ∙ a)))))
