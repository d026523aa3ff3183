-- Laws of what a path selects, as the code goes: names, the components under a type, the items, the forms.
use Prim.Native.Nat.{ℕ, suc, ◌+◌, ◌-◌, ◌*◌, ◌^◌, ◌<◌, ◌≤◌}
use mathlib.Core.Path.{◌≡◌, refl, sym, ap, ◌∙◌}
use mathlib.Core.Bool.{Bool, true, false, cond, not, ◌&&◌, and-true, and-false}
use mathlib.Core.List.{List, [], ◌∷◌}
use native.Mathlib.Nat.{mul-le-mul_right, two-pow-succ}
use native.Mathlib.Omega.{arith}
use borrow.Author.Tests.{eqb-true, eqb-false, not-true, not-false}
use lib.Dec.{eqb}
use lib.ListN.{length, take}
use lib.Pow.{pow_mono}
use lib.Seq.{length-take-le}
use Rattle.spec.specs.Words.{any_below, bit, set_of}
use Rattle.spec.specs.Bytes.{name_byte, same}
use Rattle.spec.specs.Model.{letters, max_items, components, items}
use Rattle.spec.specs.Model.{item_word, component_of}
use Rattle.spec.specs.Path.{Form, subtree, typed, other_form, form_of, has_type, under, in_subtree, in_typed}
use Rattle.spec.specs.Path.{select_subtree, select_typed, select_form, select}
use Rattle.std.specs.Prelude.{Option, Some, None, is_some}
use Rattle.std.proofs.Common.{Bor}
use Rattle.std.specs.Cmp.Lexicographic.{pointwise}
use Rattle.spec.proofs.Words.{by_cond}
use Rattle.std.specs.Cmp.{both_ways}
use Rattle.spec.proofs.Bytes.{same-ne, same-eq, same_true}
use Rattle.scan.proofs.Laws.{same-is}
use Rattle.spec.proofs.Bits.{set-lt, set-ext}
use Rattle.spec.proofs.Path.{under-zero}
use Rattle.paths.specs.Forms.{form_by}
use Rattle.select.specs.Choice.{type_given, taken, chosen, by_names, SelectionFits}

-- ---- names

letters-max : (s : List ℕ) → letters s ≤ length s
unfolding letters
letters-max [] = omega arith
letters-max (x ∷ xs) =
    by_cond (λ (r : ℕ). r ≤ length (x ∷ xs)) (name_byte x) _ _
    (λ e. omega (arith, letters-max xs))
    (λ e. omega arith)

-- n bytes of c are t: they agree with t as far as t goes, and n is its length
same-front : (c t : List ℕ) (n : ℕ) → n ≤ length c → same (take n c) t ≡ same (take (length t) c) t && eqb n (length t)
same-front c t n h = go (eqb n (length t)) refl
  where
    go : (b : Bool) → eqb n (length t) ≡ b → same (take n c) t ≡ same (take (length t) c) t && b
    go true e =
        ap (λ (m : ℕ). same (take m c) t) (eqb-true n (length t) e)
        ∙ sym (and-true (same (take (length t) c) t))
    go false e =
        same-ne (take n c) t (λ q. eqb-false n (length t) e (sym (length-take-le n c h) ∙ ap length q))
        ∙ sym (and-false (same (take (length t) c) t))

-- the code compares t with the front of the cell
turned : (s t : List ℕ) → pointwise eqb s t ≡ same t s
turned s t =
    same-is s t
    ∙ both_ways _ _ (λ e. same-eq t s (sym (same_true s t e))) (λ e. same-eq s t (sym (same_true t s e)))

-- the front of a cell against t, and then its name
module _ (c t : List ℕ) (b : Bool) (eb : b ≡ pointwise eqb t (take (length t) c)) where
  named-is : same (take (letters c) c) t ≡ b && eqb (letters c) (length t)
  named-is =
      same-front c t (letters c) (letters-max c)
      ∙ ap (λ (x : Bool). x && eqb (letters c) (length t)) (sym (eb ∙ turned t (take (length t) c)))

  pub named_other : b ≡ false → false ≡ same (take (letters c) c) t
  named_other z = sym (named-is ∙ rw z)

  pub named-so-far : b ≡ true → (n : ℕ) → n ≡ letters c → eqb n (length t) ≡ same (take (letters c) c) t
  named-so-far z n en = sym (named-is ∙ rw (z, ← en))

-- ---- the items, from the last one down

-- number n of a set goes over to those above it, r
set-top : (p : ℕ → Bool) (n r : ℕ) → 2 ^ suc n * r + set_of p (suc n) ≡ 2 ^ n * (2 * r + cond (p n) 1 0) + set_of p n
unfolding set_of
set-top p n r = rw (two-pow-succ n) (go (p n))
  where
    go : (t : Bool)
        → (2 ^ n + 2 ^ n) * r + cond t (2 ^ n + set_of p n) (set_of p n) ≡ 2 ^ n * (2 * r + cond t 1 0) + set_of p n
    go true = omega arith
    go false = omega arith

-- a turn of the loop: r has the numbers from n on, moved down by n
module _ (p : ℕ → Bool) (m n r : ℕ) (rest : set_of p m ≡ 2 ^ n * r + set_of p n) where
  pub set_room : m ≤ max_items → 0 < n → 2 * r + 1 < 2 ^ max_items
  set_room h more =
      let d : 2 * r ≤ 2 ^ n * r = mul-le-mul_right r (pow_mono {i = 1} {j = n} more) in
      omega (arith, set-lt p m, pow_mono {i = m} {j = max_items} h)

  pub set-down : 0 < n → (q : ℕ) (t : Bool) → t ≡ p (n - 1) → q ≡ 2 * r + cond t 1 0
      → set_of p m ≡ 2 ^ (n - 1) * q + set_of p (n - 1)
  set-down more q t e g =
      let s : n ≡ suc (n - 1) = omega arith in
      rest ∙ ap (λ (x : ℕ). 2 ^ x * r + set_of p x) s ∙ set-top p (n - 1) r ∙ rw (g, e)

  pub set-whole : n ≤ 0 → r ≡ set_of p m
  unfolding set_of
  set-whole none = let z : n ≡ 0 = omega arith in omega (arith, rw z at rest)

-- ---- the selections
pub given-is : (o : Option (Bor (List ℕ))) → is_some (type_given o) ≡ is_some o
given-is (Some y) = refl
given-is None = refl

module _ (model names t : List ℕ) (set : ℕ) (e : set ≡ under model names t (components model)) where
  chosen-subtree : set_of (chosen model names set None) (items model)
      ≡ set_of (in_subtree model names t) (items model)
  unfolding chosen taken in_subtree
  chosen-subtree =
      set-ext _ _ (items model)
      (λ j h. rw e (and-true (bit (under model names t (components model)) (component_of (item_word model j)))))

  chosen-typed : (y : List ℕ)
      → set_of (chosen model names set (Some y)) (items model) ≡ set_of (in_typed model names t y) (items model)
  unfolding chosen taken in_typed in_subtree
  chosen-typed y = set-ext _ _ (items model) (λ j h. rw e)

  any-from : not (any_below (has_type model names t) (components model)) ≡ eqb set 0
  any-from = rw e (sym (under-zero model names t (components model)))

  none : eqb set 0 ≡ true → any_below (has_type model names t) (components model) ≡ false
  none z = not-true _ (any-from ∙ z)

  some_one : eqb set 0 ≡ false → any_below (has_type model names t) (components model) ≡ true
  some_one z = not-false _ (any-from ∙ z)

  pub type-unknown : (o : Option (List ℕ)) → eqb set 0 ≡ true → None ≡ by_names model names t o
  unfolding select_typed select_subtree
  type-unknown (Some y) z = rw (none z)
  type-unknown None z = rw (none z)

  module _ (z : eqb set 0 ≡ false) (q : ℕ) where
    pub subtree-items : q ≡ set_of (chosen model names set None) (items model) → Some q ≡ by_names model names t None
    unfolding select_subtree
    subtree-items eq =
        let g : q ≡ set_of (in_subtree model names t) (items model) = rw chosen-subtree at eq in
        rw (some_one z, g)

    -- no item of the type: refused
    pub none-typed : (o : Option (List ℕ)) → q ≡ set_of (chosen model names set o) (items model)
        → is_some o ≡ true → eqb q 0 ≡ true → None ≡ by_names model names t o
    unfolding select_typed
    none-typed (Some y) eq s n =
        let g : q ≡ set_of (in_typed model names t y) (items model) = rw (chosen-typed y) at eq in
        rw (some_one z, ← g, n)
    none-typed None eq s n = cc

    pub not-typed : (o : Option (List ℕ)) → q ≡ set_of (chosen model names set o) (items model)
        → is_some o ≡ false → Some q ≡ by_names model names t o
    not-typed (Some y) eq s = cc
    not-typed None eq s = subtree-items eq

    pub some-items : (o : Option (List ℕ)) → q ≡ set_of (chosen model names set o) (items model)
        → eqb q 0 ≡ false → Some q ≡ by_names model names t o
    unfolding select_typed
    some-items (Some y) eq n =
        let g : q ≡ set_of (in_typed model names t y) (items model) = rw (chosen-typed y) at eq in
        rw (some_one z, ← g, n)
    some-items None eq n = subtree-items eq

-- ---- the forms
form-fits : (model names : List ℕ) (f : Form) → SelectionFits (select_form model names f) (items model)
unfolding select_form select_subtree select_typed
form-fits model names (subtree t) =
    by_cond (λ (x : Option ℕ). SelectionFits x (items model))
    (any_below (has_type model names t) (components model)) _ _
    (λ e. set-lt _ _)
    (λ e. tt)
form-fits model names (typed t y) =
    let P : Option ℕ → Type 0 = λ (x : Option ℕ). SelectionFits x (items model) in
    by_cond P (any_below (has_type model names t) (components model)) _ _
    (λ e. by_cond P (eqb (set_of (in_typed model names t y) (items model)) 0) _ _ (λ d. tt) (λ d. set-lt _ _))
    (λ e. tt)
form-fits model names other_form = tt

pub path-fits : (model names path : List ℕ) (r : Option ℕ) → r ≡ select model names (Some path)
    → SelectionFits r (items model)
unfolding select
path-fits model names path r e = rw e (form-fits model names (form_of path))

-- what a form selects, its path does
module _ (model names path : List ℕ) where
  pub path-other : other_form ≡ form_of path → None ≡ select model names (Some path)
  unfolding select select_form
  path-other e = rw (← e)

  -- a path with names, by whether an item type is one of them
  pub path-by : (t : List ℕ) (y : Option (Bor (List ℕ))) (r : Option ℕ) → form_by t y ≡ form_of path
      → r ≡ by_names model names t (type_given y) → r ≡ select model names (Some path)
  unfolding select select_form
  path-by t None r e g = rw (← e, g)
  path-by t (Some y) r e g = rw (← e, g)
