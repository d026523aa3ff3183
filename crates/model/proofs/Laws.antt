-- Laws of the model check over plain variables: each branch of a function is one of them.
use Prim.Native.Nat.{ℕ, zero, suc, ◌+◌, ◌-◌, ◌≤◌}
use mathlib.Core.Path.{◌≡◌, refl, ap, ◌∙◌}
use mathlib.Core.Bool.{Bool, true, false, cond, ◌&&◌, not}
use mathlib.Core.List.{List, [], ◌∷◌}
use native.Mathlib.Numerals.{add-one}
use native.Mathlib.Omega.{arith}
use lib.Dec.{leb, ltb, eqb}
use borrow.Author.Tests.{ltb-false, lt-ltb, le-ltb}
use lib.ListN.{length, drop}
use Rattle.std.specs.List.{position_or_len, list_all, find, range_with_len}
use Rattle.std.specs.Prelude.{Option, Some, None}
use Rattle.std.specs.Option.{option_map, unwrap_or}
use Rattle.spec.specs.Found.{found_below}
use Rattle.std.proofs.lemmas.List.Sums.{prefix_len-le-length}
use Rattle.spec.specs.Words.{every, first_where, count_below}
use Rattle.spec.specs.Bytes.{name_byte}
use Rattle.names.proofs.CellLaws.{name-not-zero}
use Rattle.spec.specs.Model.{letters, zeros, cell_ok}
use Rattle.spec.specs.Model.{category_of, asset_change}
use Rattle.spec.specs.Model.{components, items}
use Rattle.spec.specs.Model.{component_word, item_word, is_change, change_item}
use Rattle.spec.specs.Model.{component_ok, item_ok, components_ok, items_ok, changes_ok}
use Rattle.spec.proofs.Words.{count-step, and_left, and_right}

-- ---- a name's length

letters-is : (s : List ℕ) → position_or_len (λ x. not (name_byte x)) s ≡ letters s
unfolding letters
letters-is [] = refl
letters-is (x ∷ xs) = rw (← letters-is xs) (go (name_byte x))
  where
    go : (t : Bool)
        → cond (not (not t)) (1 + position_or_len (λ x. not (name_byte x)) xs) 0
        ≡ cond t (suc (position_or_len (λ x. not (name_byte x)) xs)) 0
    go true = omega arith
    go false = refl

-- where zeros alone stand behind the letters, the first of them ends them
zeros-end : (s : List ℕ) → zeros (drop (letters s) s) ≡ true → position_or_len (λ x. eqb x 0) s ≡ letters s
unfolding letters zeros
zeros-end [] e = refl
zeros-end (x ∷ xs) e = go (zeros-end xs) (name_byte x) refl
  where
    go : (zeros (drop (letters xs) xs) ≡ true → position_or_len (λ y. eqb y 0) xs ≡ letters xs)
        → (t : Bool) → name_byte x ≡ t → position_or_len (λ y. eqb y 0) (x ∷ xs) ≡ letters (x ∷ xs)
    go r true n = let f = rw n at e in rw (n, name-not-zero x n, r f) (omega arith)
    go r false n = let f = rw n at e in rw (n, and_left (eqb x 0) _ f)

-- up to the first that p tells, or all
found : (p : ℕ → Bool) (s : List ℕ) (r : Option ℕ) (n : ℕ)
    → r ≡ (let i = position_or_len p s in cond (ltb i (length s)) (Some i) None)
    → n ≡ unwrap_or r (length s) → (n ≡ position_or_len p s) × (n ≤ length s)
found p s r n e f =
    let z : n ≡ position_or_len p s = f ∙ rw e (go (ltb (position_or_len p s) (length s)) refl) in
    (z, omega (arith, most))
  where
    most : position_or_len p s ≤ length s
    most = prefix_len-le-length (λ x. not (p x)) s

    go : (t : Bool) → ltb (position_or_len p s) (length s) ≡ t
        → unwrap_or (cond t (Some (position_or_len p s)) None) (length s) ≡ position_or_len p s
    go true h = refl
    go false h = omega (arith, most, ltb-false (position_or_len p s) (length s) h)

-- up to the first byte that is none of a name, or all
pub letters-found : (s : List ℕ) (r : Option ℕ) (n : ℕ)
    → r ≡ (let i = position_or_len (λ x. not (name_byte x)) s in cond (ltb i (length s)) (Some i) None)
    → n ≡ unwrap_or r (length s) → (n ≡ letters s) × (n ≤ length s)
letters-found s r n e f = rw (← letters-is s) (found (λ x. not (name_byte x)) s r n e f)

-- up to the first zero of a cell, or all
pub zero-found : (s : List ℕ) (r : Option ℕ) (n : ℕ) → cell_ok s ≡ true
    → r ≡ (let i = position_or_len (λ x. eqb x 0) s in cond (ltb i (length s)) (Some i) None)
    → n ≡ unwrap_or r (length s) → n ≡ letters s
unfolding cell_ok
zero-found s r n c e f =
    (found (λ x. eqb x 0) s r n e f).0 ∙ zeros-end s (and_right (leb 1 (letters s)) _ c)

-- ---- the numbers from s on, as the library goes over them and as the definitions do

pub range-every : (p : ℕ → Bool) (n s : ℕ) → list_all p (range_with_len s n) ≡ every p n s
unfolding every
range-every p zero s = refl
range-every p (suc n) s = rw (add-one s) (ap (λ (t : Bool). p s && t) (range-every p n (suc s)))

range-first : (p : ℕ → Bool) (n s : ℕ) → find p (range_with_len s n) ≡ found_below (s + n) (first_where p n s)
unfolding first_where
range-first p zero s = let z : s + 0 ≡ s = omega arith in rw (z, le-ltb s s (omega arith))
range-first p (suc n) s =
    let z : suc s + n ≡ s + suc n = omega arith in
    rw (add-one s, range-first p n (suc s), z) (go (p s))
  where
    go : (t : Bool) → cond t (Some s) (found_below (s + suc n) (first_where p n (suc s)))
        ≡ found_below (s + suc n) (cond t s (first_where p n (suc s)))
    go true = rw (lt-ltb s (s + suc n) (omega arith))
    go false = refl

-- ---- components and items

pub components-all : (model : List ℕ) (names c : ℕ) (r : Bool) → c ≡ components model
    → r ≡ list_all (λ i. component_ok names i (component_word model i)) (range_with_len 0 c)
    → r ≡ components_ok model names
unfolding components_ok
components-all model names c r ec e =
    e ∙ range-every (λ i. component_ok names i (component_word model i)) c 0 ∙ rw ec

pub change-found : (model : List ℕ) (m : ℕ) (r : Option ℕ) → m ≡ items model
    → option_map (λ x. x) r ≡ find (is_change model) (range_with_len 0 m)
    → r ≡ found_below (items model) (change_item model)
unfolding change_item
change-found model m r em e =
    let z : 0 + items model ≡ items model = omega arith in
    same r ∙ e ∙ range-first (is_change model) m 0 ∙ rw (em, z)
  where
    same : (o : Option ℕ) → o ≡ option_map (λ x. x) o
    same None = refl
    same (Some x) = refl

module _ (model : List ℕ) (names c : ℕ) (ec : c ≡ components model) where
  pub items-start : (m : ℕ) → m ≡ items model
      → items_ok model names ≡ every (λ k. item_ok (components model) names (item_word model k)) (m - 0) 0
  unfolding items_ok
  items-start m em = let q : m - 0 ≡ items model = omega arith in rw q

  pub item-at : (j x : ℕ) (t u : Bool) → t ≡ item_ok c names x → x ≡ item_word model j → t ≡ u
      → item_ok (components model) names (item_word model j) ≡ u
  item-at j x t u e q z = rw (← q, ← ec, ← e, z)

pub change-more : (model : List ℕ) (j k x r : ℕ) → x ≡ item_word model j → k ≡ count_below (is_change model) j
    → r ≡ cond (eqb (category_of x) asset_change) 1 0 → k + r ≡ count_below (is_change model) (j + 1)
change-more model j k x r ex ek er = rw (count-step (is_change model) j, ek, er, ex)

-- the end of the items' loop, and a word in it that is none
module _ (model : List ℕ) (names : ℕ) where
  pub items-no : false ≡ items_ok model names → false ≡ (items_ok model names && changes_ok model)
  items-no e = rw (← e)

  pub items-end : (j k : ℕ) → j ≡ items model → true ≡ items_ok model names → k ≡ count_below (is_change model) j
      → leb k 1 ≡ (items_ok model names && changes_ok model)
  unfolding changes_ok
  items-end j k ej e ek = rw (← e, ek, ej)
