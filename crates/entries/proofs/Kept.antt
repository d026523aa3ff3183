-- What is kept where its number of used entries isn't 0, by a filter.
use Prim.Native.Nat.{ℕ}
use mathlib.Core.Path.{◌≡◌, refl, sym, ap, ◌∙◌}
use mathlib.Core.Logic.{◌⊎◌, inl, inr}
use mathlib.Core.Bool.{Bool, true, false, not}
use lib.Dec.{eqb}
use borrow.Author.Tests.{eqb-true, eqb-false}
use Rattle.std.specs.Bool.{then_some}
use Rattle.std.specs.Prelude.{Option, Some, None, MatchOption}
use Rattle.spec.proofs.Words.{by-test}

-- q is what a filter by P has left of o
abbrev pub Kept : {A : Type 0} → Option A → Option A → (A → Bool → Type 0) → Type 0
Kept {A} o q P = MatchOption o (q ≡ None) (λ x. (b : Bool) × P x b × (q ≡ then_some b x))

-- the filter keeps what has a number that isn't 0
module _ {A : Type 0} (n : A → ℕ) where
  pub kept-none : (o q : Option A) (P : A → Bool → Type 0) → Kept o q P
      → ((x : A) (b : Bool) → P x b → b ≡ not (eqb (n x) 0)) → q ≡ None
      → (o ≡ None) ⊎ ((x : A) × (o ≡ Some x) × (n x ≡ 0))
  kept-none None q P m f e = inl refl
  kept-none (Some x) q P m f e =
      by-test (eqb (n x) 0) (λ t. inr (x, refl, eqb-true (n x) 0 t))
      (λ t.
      let b : m.0 ≡ true = f x m.0 m.1 ∙ rw t in
      let s : ◌≡◌ {A = Option A} None (Some x) = sym e ∙ rw b at m.2 in
      absurd (cc))

  pub kept-some : (o q : Option A) (P : A → Bool → Type 0) → Kept o q P
      → ((x : A) (b : Bool) → P x b → b ≡ not (eqb (n x) 0)) → {y : A} → q ≡ Some y → (o ≡ Some y) × (n y ≡ 0 → ⊥)
  kept-some None q P m f {y} e = let s : ◌≡◌ {A = Option A} None (Some y) = sym m ∙ e in absurd (cc)
  kept-some (Some x) q P m f {y} e =
      by-test (eqb (n x) 0)
      (λ t.
      let b : m.0 ≡ false = f x m.0 m.1 ∙ rw t in
      let s : ◌≡◌ {A = Option A} None (Some y) = sym (rw b at m.2) ∙ e in
      absurd (cc))
      (λ t.
      let b : m.0 ≡ true = f x m.0 m.1 ∙ rw t in
      let s : Some x ≡ Some y = sym (rw b at m.2) ∙ e in
      let k : x ≡ y = cc in
      (s, λ z. eqb-false (n x) 0 t (ap n k ∙ z)))
