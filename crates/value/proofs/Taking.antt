-- What an item of a category takes, by a word's kind and its low part.
use Prim.Native.Nat.{ℕ, zero, suc, ◌+◌, ◌*◌, ◌/◌, ◌%◌, ◌<◌, ◌≤◌, ◌^◌}
use mathlib.Core.Path.{◌≡◌, refl, sym, ◌∙◌}
use mathlib.Core.Logic.{◌≢◌}
use mathlib.Core.Bool.{Bool, true, false}
use native.Mathlib.Nat.{div-add-mod', mod-lt}
use native.Mathlib.Omega.{arith}
use lib.Dec.{leb, eqb, lit<}
use borrow.Author.Tests.{lt-ltb, le-ltb, le-leb, ne_eqb, eqb-true, eqb-false, leb-true, leb-false}
use Rattle.spec.specs.Model.{discrete}
use Rattle.spec.specs.Value.{decode_kind, decode, takes}
use Rattle.spec.proofs.Words.{by-test}
use Rattle.spec.proofs.Packing.{no_value-refused}

-- a sample or an event of its own category
own-kind : (c k l : ℕ) → c < 2 → k ≡ c + 1 → true ≡ takes c (decode_kind k l)
own-kind zero k l h e = rw e
own-kind (suc zero) k l h e = rw e
own-kind (suc (suc c)) k l h e = absurd (omega arith)

condition-other : (c l : ℕ) (t : Bool) → leb (l / 2 ^ 24) 2 ≡ t → (c ≡ 2 → 2 < l / 2 ^ 24)
    → false ≡ takes c (decode_kind 3 l)
condition-other c l true e h = rw (e, ne_eqb c 2 (λ q. omega (arith, leb-true (l / 2 ^ 24) 2 e, h q)))
condition-other c l false e h = rw e (sym (no_value-refused c))

-- nobody's, or another category's
refused : (c k l : ℕ) → (k ≡ 0 → l ≢ 0) → (k ≡ 1 → c ≢ 0) → (k ≡ 2 → c ≢ 1) → (k ≡ 2 → c ≢ discrete)
    → (k ≡ 3 → c ≡ 2 → 2 < l / 2 ^ 24) → false ≡ takes c (decode_kind k l)
refused c zero l z s e d f = rw (ne_eqb l 0 (z refl)) (sym (no_value-refused c))
refused c (suc zero) l z s e d f = rw (ne_eqb c 0 (s refl))
refused c (suc (suc zero)) l z s e d f = rw (ne_eqb c 1 (e refl), ne_eqb c discrete (d refl))
refused c (suc (suc (suc zero))) l z s e d f = condition-other c l (leb (l / 2 ^ 24) 2) refl (f refl)
refused c (suc (suc (suc (suc k)))) l z s e d f = sym (no_value-refused c)

-- the same of a word, as takes_word tells them apart
module _ (c word : ℕ) where
  whole : word / 4294967296 * 4294967296 + word % 4294967296 ≡ word
  whole = div-add-mod' word 4294967296

  not_taken : word ≢ 0 → (word / 4294967296 ≡ 1 → c ≢ 0) → (word / 4294967296 ≡ 2 → c ≢ 1)
      → (word / 4294967296 ≡ 2 → c ≢ discrete)
      → (word / 4294967296 ≡ 3 → c ≡ 2 → 2 < word % 4294967296 / 16777216) → false ≡ takes c (decode word)
  unfolding decode
  not_taken z = refused c (word / 4294967296) (word % 4294967296) (λ k l. z (omega (arith, whole)))

  pub own-taken : c < 2 → word / 4294967296 ≡ c + 1 → true ≡ takes c (decode word)
  unfolding decode
  own-taken = own-kind c (word / 4294967296) (word % 4294967296)

  pub none-taken : c < 3 → word ≡ 0 → true ≡ takes c (decode word)
  unfolding decode
  none-taken h e = rw (e, lt-ltb c 3 h)

  pub none-discrete : c ≡ 4 → word ≡ 0 → true ≡ takes c (decode word)
  unfolding decode
  none-discrete h e = rw (e, h)

  pub own-other : c < 2 → word / 4294967296 ≢ c + 1 → eqb word 0 ≡ takes c (decode word)
  own-other h o =
      by-test (eqb word 0) (λ t. t ∙ none-taken (omega arith) (eqb-true word 0 t))
      (λ t.
      t
      ∙ not_taken (eqb-false word 0 t) (λ k q. o (omega arith)) (λ k q. o (omega arith)) (λ k q. omega arith)
      (λ k q. omega arith))

  pub discrete-event : c ≡ 4 → word / 4294967296 ≡ 2 → true ≡ takes c (decode word)
  unfolding decode
  discrete-event h e = rw (e, h)

  pub discrete-other : c ≡ 4 → word / 4294967296 ≢ 2 → eqb word 0 ≡ takes c (decode word)
  discrete-other h o =
      by-test (eqb word 0) (λ t. t ∙ none-discrete h (eqb-true word 0 t))
      (λ t.
      t
      ∙ not_taken (eqb-false word 0 t) (λ k q. omega arith) (λ k q. omega arith) (λ k q. o k) (λ k q. omega arith))

  pub other : 2 ≤ c → c ≢ 2 → c ≢ 4 → false ≡ takes c (decode word)
  unfolding decode
  other h a b =
      by-test (eqb word 0)
      (λ t. rw (eqb-true word 0 t, le-ltb c 3 (omega arith), ne_eqb c 4 b))
      (λ t.
      not_taken (eqb-false word 0 t) (λ k q. omega arith) (λ k q. omega arith) (λ k q. b q) (λ k q. absurd (a q)))

  -- kind and level in one number
  front : word / 16777216 ≡ word / 4294967296 * 256 + word % 4294967296 / 16777216
  front =
      let a : word % 16777216 < 16777216 = mod-lt word (lit< tt) in
      let b : word % 4294967296 % 16777216 < 16777216 = mod-lt (word % 4294967296) (lit< tt) in
      omega (arith, whole, div-add-mod' word 16777216, div-add-mod' (word % 4294967296) 16777216)

  module _ (h : c ≡ 2) where
    level-high : word % 4294967296 / 16777216 < 256
    level-high =
        let a : word % 4294967296 < 4294967296 = mod-lt word (lit< tt) in
        omega (arith, div-add-mod' (word % 4294967296) 16777216)

    pub level-low : word ≢ 0 → word / 16777216 < 768 → false ≡ takes c (decode word)
    level-low z l =
        not_taken z (λ k q. omega arith) (λ k q. omega arith) (λ k q. omega arith)
        (λ k q. absurd (omega (arith, front)))

    pub level-tested : 768 ≤ word / 16777216 → leb (word / 16777216) 770 ≡ takes c (decode word)
    unfolding decode
    level-tested l =
        by-test (leb (word / 16777216) 770)
        (λ t.
        let u = leb-true (word / 16777216) 770 t in
        let k : word / 4294967296 ≡ 3 = omega (arith, front, level-high) in
        let b : word % 4294967296 / 16777216 ≤ 2 = omega (arith, front) in
        rw (
          t,
          k,
          h,
          le-leb (word % 4294967296 / 16777216) 2 b,
          lt-ltb (word % 4294967296 % 16777216) 16777216 (mod-lt (word % 4294967296) (lit< tt)),
        ))
        (λ t.
        let u = leb-false (word / 16777216) 770 t in
        t
        ∙ not_taken (λ z. omega (arith, whole, front, level-high)) (λ k q. omega arith) (λ k q. omega arith)
        (λ k q. omega arith) (λ k q. omega (arith, front)))
