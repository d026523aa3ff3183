-- What holds of each element of a list, by std's AllByRecursion: of lists put together, cut, read and mapped.
use Prim.Native.Nat.{ℕ, zero, suc, ◌<◌}
use mathlib.Core.List.{List, [], ◌∷◌, ◌++◌, map}
use native.Mathlib.Omega.{arith}
use lib.ListN.{length, get_or, take}
use Rattle.std.specs.List.{AllByRecursion as Each}

-- where Q follows from P, and where P holds of everything
pub each-imp : {A : Type 0} {P Q : A → Type 0} → ((x : A) → P x → Q x) → (xs : List A) → Each P xs → Each Q xs
each-imp f [] h = tt
each-imp f (x ∷ xs) h = (f x h.0, each-imp f xs h.1)

pub each-all : {A : Type 0} {P : A → Type 0} → ((x : A) → P x) → (xs : List A) → Each P xs
each-all f [] = tt
each-all f (x ∷ xs) = (f x, each-all f xs)

pub each-map : {A B : Type 0} (P : B → Type 0) (f : A → B) (xs : List A) → Each (λ x. P (f x)) xs → Each P (map f xs)
each-map P f [] h = tt
each-map P f (x ∷ xs) h = (h.0, each-map P f xs h.1)

module _ {A : Type 0} (P : A → Type 0) where
  pub each-append : (xs ys : List A) → Each P xs → Each P ys → Each P (xs ++ ys)
  each-append [] ys h k = k
  each-append (x ∷ xs) ys h k = (h.0, each-append xs ys h.1 k)

  pub each-parts : (xs ys : List A) → Each P (xs ++ ys) → Each P xs × Each P ys
  each-parts [] ys h = (tt, h)
  each-parts (x ∷ xs) ys h = let k = each-parts xs ys h.1 in ((h.0, k.0), k.1)

  pub each-take : (i : ℕ) (xs : List A) → Each P xs → Each P (take i xs)
  each-take zero xs h = tt
  each-take (suc i) [] h = tt
  each-take (suc i) (x ∷ xs) h = (h.0, each-take i xs h.1)

  pub each-at : (xs : List A) (i : ℕ) (d : A) → i < length xs → Each P xs → P (get_or xs i d)
  each-at [] i d l h = absurd (omega arith)
  each-at (x ∷ xs) zero d l h = h.0
  each-at (x ∷ xs) (suc i) d l h = each-at xs i d (omega arith) h.1
