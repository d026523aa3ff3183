-- The rows behind an item's first: zeros where their words, or-ed, are 0; one entry is used then.
use Prim.Native.Nat.{ℕ, zero, suc, ◌+◌, ◌-◌, ◌≤◌, ◌<◌}
use mathlib.Core.Path.{◌≡◌, refl, sym, ap, ◌∙◌}
use mathlib.Core.Bool.{Bool, true, false, ◌&&◌, and-true, and_assoc}
use mathlib.Core.List.{List, [], ◌∷◌}
use native.Mathlib.Omega.{arith}
use lib.Bits.{bit_or, or_add_and, and_le_r}
use lib.Dec.{eqb}
use lib.ListN.{length, get_or, take, drop}
use lib.Seq.{take_all}
use Rattle.std.proofs.lemmas.List.{length-drop}
use Rattle.std.proofs.lemmas.Grind.{get_or_after_one}
use borrow.Author.Tests.{eqb-true, eqb-false, ne_eqb}
use Rattle.spec.specs.Entries.{each_row, zero_row, used_rows, form_ok}
use Rattle.spec.proofs.Words.{and_left, by-test}
use Rattle.entries.specs.Forms.{filled}
use Rattle.std.specs.Prelude.{Some}

or-none : (a b : ℕ) → eqb (bit_or a b) 0 ≡ eqb a 0 && eqb b 0
or-none a b =
    by-test (eqb a 0)
    (λ e. rw (e, eqb-true a 0 e))
    (λ e.
    rw e
    (ne_eqb (bit_or a b) 0 (λ z. eqb-false a 0 e (omega (arith, z, or_add_and a b, and_le_r a b)))))

or-three : (n a b c : ℕ)
    → eqb (bit_or (bit_or (bit_or n a) b) c) 0 ≡ eqb n 0 && (eqb a 0 && (eqb b 0 && eqb c 0))
or-three n a b c =
    rw (or-none (bit_or (bit_or n a) b) c, or-none (bit_or n a) b, or-none n a)
    (all-four (eqb n 0) (eqb a 0) (eqb b 0) (eqb c 0))
  where
    all-four : (p q r s : Bool) → ((p && q) && r) && s ≡ p && (q && (r && s))
    all-four false q r s = refl
    all-four true false r s = refl
    all-four true true r s = refl

-- one row more
zeros-snoc : (n : ℕ) (rows : List (List ℕ)) → n < length rows
    → each_row zero_row (take (suc n) rows) ≡ each_row zero_row (take n rows) && zero_row (get_or rows n [])
unfolding each_row
zeros-snoc n [] h = absurd (omega arith)
zeros-snoc zero (r ∷ rows) h = and-true (zero_row r)
zeros-snoc (suc n) (r ∷ rows) h =
    ap (λ (b : Bool). zero_row r && b) (zeros-snoc n rows (omega arith))
    ∙ sym (and_assoc (zero_row r) (each_row zero_row (take n rows)) (zero_row (get_or rows n [])))

-- the words of the entries behind the first and before j, or-ed
pub record Ored (rows : List (List ℕ)) (any j : ℕ) : Type 0 where
  pub some : 1 ≤ j
  pub few : j ≤ 8
  pub is : eqb any 0 ≡ each_row zero_row (take (j - 1) (drop 1 rows))

pub ored-none : (rows : List (List ℕ)) → Ored rows 0 1
unfolding each_row
ored-none rows = record { some = omega arith; few = omega arith; is = refl }

module _ {rows : List (List ℕ)} {any j : ℕ} (o : Ored rows any j) (eight : length rows ≡ 8) where
  pub ored-more : {a b c : ℕ} → j < 8 → get_or rows j [] ≡ a ∷ b ∷ c ∷ []
      → Ored rows (bit_or (bit_or (bit_or any a) b) c) (j + 1)
  ored-more {a} {b} {c} h r =
      let l : length (drop 1 rows) ≡ 7 = omega (arith, length-drop 1 rows, eight) in
      let e : j + 1 - 1 ≡ suc (j - 1) = omega (arith, o.some) in
      let f : 1 + (j - 1) ≡ j = omega (arith, o.some) in
      let q : get_or (drop 1 rows) (j - 1) [] ≡ a ∷ b ∷ c ∷ [] = get_or_after_one rows (j - 1) [] ∙ rw f r in
      let z = zeros-snoc (j - 1) (drop 1 rows) (omega (arith, l, h, o.some)) in
      record {
        some = omega arith;
        few = omega (arith, h);
        is = or-three any a b c ∙ rw (e, z, q, ← o.is) refl;
      }

  pub ored-all : 8 ≤ j → eqb any 0 ≡ each_row zero_row (drop 1 rows)
  ored-all h =
      let l : length (drop 1 rows) ≡ 7 = omega (arith, length-drop 1 rows, eight) in
      o.is ∙ ap (each_row zero_row) (take_all (j - 1) (drop 1 rows) (omega (arith, l, h)))

-- ---- one entry

pub none-used : (rs : List (List ℕ)) → each_row zero_row rs ≡ true → used_rows rs ≡ []
unfolding each_row used_rows
none-used [] z = refl
none-used (r ∷ rs) z = rw (and_left (eqb (get_or r 0 0) 0) _ (and_left (zero_row r) _ z))

one-used : (own : ℕ) (r : List ℕ) (rs : List (List ℕ)) → (get_or r 0 0 ≡ 0 → ⊥) → each_row zero_row rs ≡ true
    → Some 1 ≡ filled own (r ∷ rs)
unfolding filled form_ok used_rows
one-used own r rs u z = rw (ne_eqb (get_or r 0 0) 0 u, none-used rs z, z)

pub first_alone : (own : ℕ) (rows : List (List ℕ)) {number time word : ℕ}
    → get_or rows 0 [] ≡ number ∷ time ∷ word ∷ [] → (number ≡ 0 → ⊥) → each_row zero_row (drop 1 rows) ≡ true
    → Some 1 ≡ filled own rows
first_alone own [] e u z = absurd (u (ap (λ r. get_or r 0 0) (sym e)))
first_alone own (r ∷ rows) e u z = one-used own r rows (λ y. u (ap (λ r. get_or r 0 0) (sym e) ∙ y)) z
