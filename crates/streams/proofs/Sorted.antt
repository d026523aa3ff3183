-- The document's order of rows is a permutation of the reply's: each row stands in it once.
use Prim.Native.Nat.{ℕ, zero, suc, ◌+◌, ◌≤◌, ◌<◌}
use mathlib.Core.Path.{◌≡◌, refl, ap}
use mathlib.Core.Bool.{Bool, true, false, cond}
use mathlib.Core.List.Permᴰ
use mathlib.Core.List.{List, [], ◌∷◌, ◌++◌, Permᴰ}
use native.Mathlib.Omega.{arith}
use lib.Dec.{eqb}
use borrow.Author.Tests.{ne_eqb, eqb-true, eqb-false}
use Rattle.std.specs.List.{AllByRecursion as Holds}
use Rattle.spec.specs.Model.{components, category}
use Rattle.spec.proofs.Elements.{each-imp, each-all}
use Rattle.streams.specs.Streams.{Row, each, having, group_of, groups, row_component, row_group, by_group, sorted}

-- what holds of each holds of each of those kept, of which f gives k
pub holds-having : {A : Type 0} (p : A → Type 0) (f : A → ℕ) (k : ℕ) (rs : List A) → Holds p rs
    → Holds (λ r. p r × (f r ≡ k)) (having f k rs)
unfolding having
holds-having p f k [] h = tt
holds-having {A} p f k (r ∷ rs) h = go (eqb (f r) k) refl (holds-having p f k rs h.1)
  where
    go : (t : Bool) → eqb (f r) k ≡ t → Holds (λ (r : A). p r × (f r ≡ k)) (having f k rs)
        → Holds (λ (r : A). p r × (f r ≡ k)) (cond t (r ∷ having f k rs) (having f k rs))
    go true e ih = ((h.0, eqb-true _ _ e), ih)
    go false e ih = ih

-- ---- each among n numbers from i on

module _ {A : Type 0} (f : A → ℕ) where
  each-past : (r : A) (rs : List A) (n i : ℕ) → f r < i
      → each (λ k. having f k (r ∷ rs)) n i ≡ each (λ k. having f k rs) n i
  unfolding each having
  each-past r rs zero i h = refl
  each-past r rs (suc n) i h =
      rw (ne_eqb (f r) i (λ e. omega arith)) (ap (◌++◌ (having f i rs)) (each-past r rs n (suc i) (omega arith)))

  put_in : (r : A) (rs : List A) (n i : ℕ) → i ≤ f r → f r < i + n
      → Permᴰ (each (λ k. having f k (r ∷ rs)) n i) (r ∷ each (λ k. having f k rs) n i)
  unfolding each having
  put_in r rs zero i h l = absurd (omega arith)
  put_in r rs (suc n) i h l = go (eqb (f r) i) refl (λ k. put_in r rs n (suc i) k (omega arith))
    where
      rest : List A
      rest = each (λ k. having f k rs) n (suc i)

      go : (t : Bool) → eqb (f r) i ≡ t
          → (suc i ≤ f r → Permᴰ (each (λ k. having f k (r ∷ rs)) n (suc i)) (r ∷ rest))
          → Permᴰ (cond t (r ∷ having f i rs) (having f i rs) ++ each (λ k. having f k (r ∷ rs)) n (suc i))
          (r ∷ (having f i rs ++ rest))
      go true e ih =
          let q = eqb-true (f r) i e in
          rw (each-past r rs n (suc i) (omega arith)) (Permᴰ.refl _)
      go false e ih =
          let q = eqb-false (f r) i e in
          Permᴰ.trans (Permᴰ.append_left (having f i rs) (ih (omega arith))) (Permᴰ.middle r (having f i rs) _)

  none_in : (n i : ℕ) → Permᴰ (each (λ k. having f k []) n i) []
  unfolding each having
  none_in zero i = Permᴰ.nil
  none_in (suc n) i = none_in n (suc i)

  pub each-once : (n i : ℕ) (rs : List A) → Holds (λ r. (i ≤ f r) × (f r < i + n)) rs
      → Permᴰ (each (λ k. having f k rs) n i) rs
  each-once n i [] h = none_in n i
  each-once n i (r ∷ rs) h =
      Permᴰ.trans (put_in r rs n i h.0.0 h.0.1) (Permᴰ.cons refl (each-once n i rs h.1))

each-perm : {A : Type 0} (g h : ℕ → List A) (n i : ℕ) → ((k : ℕ) → Permᴰ (g k) (h k))
    → Permᴰ (each g n i) (each h n i)
unfolding each
each-perm g h zero i p = Permᴰ.nil
each-perm g h (suc n) i p =
    Permᴰ.trans (Permᴰ.append_right (each g n (suc i)) (p i)) (Permᴰ.append_left (h i)
    (each-perm g h n (suc i) p))

-- ---- components and groups

pub group-lt : (category : ℕ) → group_of category < groups
group-lt zero = omega arith
group-lt (suc zero) = omega arith
group-lt (suc (suc zero)) = omega arith
group-lt (suc (suc (suc n))) = omega arith

group-once : (model : List ℕ) (rows : List Row) → Permᴰ (by_group model rows) rows
group-once model rows =
    each-once (row_group model) groups 0 rows
    (each-all (λ r. (omega arith, group-lt (category model r.item))) rows)

-- where each row's item has a component of the model
pub sorted-once : (model : List ℕ) (rows : List Row) → Holds (λ r. row_component model r < components model) rows
    → Permᴰ (sorted model rows) rows
unfolding sorted
sorted-once model rows h =
    Permᴰ.trans
    (each-perm (λ c. by_group model (having (row_component model) c rows)) (λ c. having (row_component model) c rows)
    (components model) 0 (λ c. group-once model (having (row_component model) c rows)))
    (each-once (row_component model) (components model) 0 rows
    (each-imp (λ r l. (omega arith, omega arith)) rows h))
