-- What the code comes to: words that are active or Normal, the place of a key, and eight words lent out of others.
use Prim.Native.Nat.{ℕ, suc, ◌+◌, ◌-◌, ◌*◌, ◌/◌, ◌%◌, ◌^◌, ◌≤◌, ◌<◌}
use mathlib.Core.Path.{◌≡◌, refl, sym, ap, ◌∙◌}
use mathlib.Core.Bool.{true, false, cond, ◌||◌, true≢false}
use mathlib.Core.List.{List}
use native.Mathlib.Nat.{mod-lt}
use lib.Arith.{mod-mul}
use native.Mathlib.Omega.{arith}
use lib.Dec.{eqb, lit<}
use lib.ListN.{length, take, drop, length-drop}
use lib.Seq.{length-take-le}
use borrow.Author.Tests.{eq-eqb, ne_eqb, eqb-true, eqb-false, ltb-true, ltb-false}
use Rattle.std.specs.List.{position}
use Rattle.std.specs.Prelude.{Option, Some, None, is_some, nat_lt}
use Rattle.std.proofs.lemmas.List.Recursion.{is_position_or_len}
use Rattle.std.proofs.lemmas.Option.{cond_some}
use Rattle.spec.specs.Value.{item_of}
use Rattle.spec.specs.Entries.{active, normal, kind_field, level_field}
use Rattle.spec.proofs.Words.{by-test}
use Rattle.spec.proofs.Found.{cond-none}
use Rattle.marks.specs.Marks.{key_in, key_of, eight_at, key_place, free_place, place_of, found_at}
use Rattle.marks.proofs.Keys.{active-key, idle-key, place-max}

-- ---- words that are active, or Normal

module _ (own word : ℕ) where
  -- a condition of level 1 or 2: Warning or Fault
  pub active-level : (n : ℕ) → n < 256 → word / 2 ^ 24 ≡ own * 65536 + 768 + n → eqb n 1 || eqb n 2 ≡ true
      → active own word ≡ true
  unfolding active
  active-level n b h t =
      let e : level_field word ≡ n = omega arith in
      rw (eq-eqb (item_of word) own (omega arith), eq-eqb (kind_field word) 3 (omega arith), e) t

  pub active-neither : (word / 2 ^ 24 ≡ own * 65536 + 769 → ⊥) → (word / 2 ^ 24 ≡ own * 65536 + 770 → ⊥)
      → active own word ≡ false
  unfolding active
  active-neither f g =
      by-test (eqb (item_of word) own)
      (λ a.
      by-test (eqb (kind_field word) 3)
      (λ b.
      let x = eqb-true (item_of word) own a in
      let y = eqb-true (kind_field word) 3 b in
      let u : level_field word ≡ 1 → ⊥ = λ e. f (omega arith) in
      let v : level_field word ≡ 2 → ⊥ = λ e. g (omega arith) in
      rw (a, b, ne_eqb (level_field word) 1 u, ne_eqb (level_field word) 2 v))
      (λ b. rw (a, b)))
      (λ a. rw a)

-- the kind and the level, in one number
front-is : (word : ℕ) → word / 2 ^ 24 % 65536 ≡ kind_field word * 256 + level_field word
front-is word =
    let e : word / 2 ^ 24 / 256 ≡ word / 2 ^ 32 = omega arith in
    mod-mul (word / 2 ^ 24) {m = 256} {c = 256} (lit< tt) (lit< tt) ∙ rw e

pub normal-is : (word : ℕ) → eqb (word / 2 ^ 24 % 65536) 768 ≡ normal word
unfolding normal
normal-is word =
    rw (front-is word)
    (by-test (eqb (kind_field word) 3)
    (λ a.
    let x = eqb-true (kind_field word) 3 a in
    by-test (eqb (level_field word) 0)
    (λ b. rw (a, b, x, eqb-true (level_field word) 0 b))
    (λ b.
    let n : kind_field word * 256 + level_field word ≡ 768 → ⊥ = λ e. eqb-false (level_field word) 0 b (omega arith) in
    rw (a, b, ne_eqb (kind_field word * 256 + level_field word) 768 n)))
    (λ a.
    let l : level_field word < 256 = mod-lt (word / 2 ^ 24) (lit< tt) in
    let n : kind_field word * 256 + level_field word ≡ 768 → ⊥ = λ e. eqb-false (kind_field word) 3 a (omega arith) in
    rw (a, ne_eqb (kind_field word * 256 + level_field word) 768 n)))

-- a key that the code has tested
module _ (own word : ℕ) {key : ℕ} (is : key ≡ key_of own word) where
  pub key-zero : key ≡ 0 → active own word ≡ false
  key-zero z = idle-key own word (sym is ∙ z)

  pub key-some : (key ≡ 0 → ⊥) → active own word ≡ true
  key-some n = active-key own word (λ z. n (is ∙ z))

-- ---- the place of a key

pub eight-length : {A : Type 0} (l : List A) (k : ℕ) → k + 8 ≤ length l → length (eight_at l k) ≡ 8
eight-length l k h = length-take-le 8 (drop k l) (omega (arith, length-drop k l))

-- what is looked for, as the library has it
one-more : (n : ℕ) → 1 + n ≡ suc n
one-more n = omega arith

module _ (key : ℕ) (ms : List ℕ) where
  keyed : position (λ x. eqb (key_in x) key) ms
      ≡ cond (nat_lt (key_place key ms) (length ms)) (Some (key_place key ms)) None
  unfolding key_place
  keyed =
      rw (is_position_or_len (key_place key) (λ x. eqb (key_in x) key) refl
      (λ x xs. rw (one-more (key_place key xs)))
      ms)

  free : position (λ x. eqb x 0) ms ≡ cond (nat_lt (free_place ms) (length ms)) (Some (free_place ms)) None
  unfolding free_place
  free = rw (is_position_or_len free_place (λ x. eqb x 0) refl (λ x xs. rw (one-more (free_place xs))) ms)

  -- where none has the key
  unkeyed : nat_lt (key_place key ms) (length ms) ≡ false → position (λ x. eqb (key_in x) key) ms ≡ None
  unkeyed t = keyed ∙ rw t

  pub found-key : {o : Option ℕ} → o ≡ position (λ x. eqb (key_in x) key) ms → is_some o ≡ true → o ≡ found_at key ms
  unfolding place_of found_at
  found-key e h =
      by-test (nat_lt (key_place key ms) (length ms))
      (λ t. e ∙ (keyed ∙ rw (t, t)))
      (λ t. absurd (true≢false (sym h ∙ ap is_some (e ∙ unkeyed t))))

  pub found-free : {o p : Option ℕ} → o ≡ position (λ x. eqb (key_in x) key) ms → is_some o ≡ false
      → p ≡ position (λ x. eqb x 0) ms → p ≡ found_at key ms
  unfolding place_of found_at
  found-free e h g =
      by-test (nat_lt (key_place key ms) (length ms))
      (λ t. absurd (true≢false (rw (e, keyed, t) at h)))
      (λ t. g ∙ (free ∙ rw t))

module _ (key : ℕ) (ms : List ℕ) where
  pub found-some : {j : ℕ} → Some j ≡ found_at key ms → (j ≡ place_of key ms) × (j < length ms)
  unfolding found_at
  found-some {j} e =
      let x = cond_some (nat_lt (place_of key ms) (length ms)) (place_of key ms) j (sym e) in
      (sym x.1, rw (← x.1) (ltb-true (place_of key ms) (length ms) x.0))

  pub found-none : None ≡ found_at key ms → length ms ≡ place_of key ms
  unfolding found_at
  found-none e =
      let x = cond-none (nat_lt (place_of key ms) (length ms)) (place_of key ms) e in
      omega (arith, ltb-false (place_of key ms) (length ms) x, place-max key ms)

-- ---- eight words lent out of others

pub eight-lent : {A : Type 0} (a : ℕ) (l : List A) → take (a + 8 - a) (drop a l) ≡ eight_at l a
eight-lent a l =
    let e : a + 8 - a ≡ 8 = omega arith in rw e
