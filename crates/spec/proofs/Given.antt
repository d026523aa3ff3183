-- What a loop over an iterator knows of the items that are left, and the parts that the library's split gives.
use Prim.Native.Nat.{ℕ}
use mathlib.Core.Path.{◌≡◌, refl}
use mathlib.Core.Bool.{Bool, false}
use mathlib.Core.List.{List, [], ◌∷◌}
use denote.Param.Members.{Mut}
use denote.Ref.{Bor}
use lib.Dec.{eqb}
use Rattle.std.specs.Fn.{CalledAt}
use Rattle.std.specs.Slice.Iter as slice
use Rattle.std.specs.Prelude.{Option, Some, None}
use Rattle.std.specs.List.{slice_split, onto_first}
use Rattle.std.proofs.lemmas.Iterator.{YieldsList}
use Rattle.std.proofs.lemmas.Iterator.Splits.{YieldsList-from_slice_split}
use Rattle.spec.specs.Bytes.{split, join_first}

module _ {S A B : Type 0} {steps : S → Option A → S → Type 0} {v : A → B} {s t : S} where
  -- an iterator's next item is the first of those that it is to give
  pub given-next : (ys : List B) → YieldsList steps v s ys → (x : A) → steps s (Some x) t
      → (more : List B) × ((ys ≡ v x ∷ more) × YieldsList steps v t more)
  given-next [] g x h = absurd (g.runs x t h)
  given-next (y ∷ ys) g x h = let m = g.runs.1 x t h in (ys, (rw m.0, record { runs = m.1 }))

  pub given-none : (ys : List B) → YieldsList steps v s ys → steps s None t → ys ≡ []
  given-none [] g h = refl
  given-none (y ∷ ys) g h = absurd (g.runs.0 t h)

split-first : (x : ℕ) (r : List (List ℕ)) → onto_first x r ≡ join_first x r
unfolding join_first
split-first x [] = refl
split-first x (p ∷ ps) = refl

-- the library's parts
split-is : (b : ℕ) (s : List ℕ) → slice_split (λ x. eqb x b) s ≡ split b s
unfolding split
split-is b [] = refl
split-is b (x ∷ xs) = rw (split-is b xs, split-first x (split b xs))

-- a slice that is cut at each b is to give its parts
pub split-given : {F : Type 0} {s : _} (g : Mut F (Bor ℕ × Unit {0}) Bool) (b : ℕ) {f : F} (xs : List ℕ)
    → slice.split_rest s ≡ xs → slice.split_done s ≡ false → slice.split_callee s ≡ f
    → ((x : ℕ) (t : Bool) (q : F) → CalledAt g f x t q → (q ≡ f) × (t ≡ eqb x b))
    → YieldsList (slice.split_steps g) (λ x. x.now) s (split b xs)
split-given g b xs rest done closure tests =
    rw (← split-is b xs) (YieldsList-from_slice_split g (λ x. eqb x b) xs rest done closure tests)
