-- Pieces one behind the other: lines ended, what numbers give, rows kept.
use Prim.Native.Nat.{ℕ, zero, suc, ◌+◌}
use mathlib.Core.Path.{◌≡◌, refl, sym, ap, ◌∙◌}
use mathlib.Core.Bool.{Bool, true, false, cond}
use mathlib.Core.List.{List, [], ◌∷◌, ◌++◌, append_assoc, append-nil}
use native.Mathlib.Omega.{arith}
use lib.Dec.{eqb}
use Rattle.streams.specs.Streams.{each, having, ended}

pub ended-append : (a b : List (List ℕ)) → ended (a ++ b) ≡ ended a ++ ended b
unfolding ended
ended-append [] b = refl
ended-append (l ∷ a) b = rw (ended-append a b) (sym (append_assoc l (10 ∷ ended a) (ended b)))

pub having-append : {A : Type 0} (f : A → ℕ) (k : ℕ) (a b : List A)
    → having f k (a ++ b) ≡ having f k a ++ having f k b
unfolding having
having-append f k [] b = refl
having-append {A} f k (x ∷ a) b = go (eqb (f x) k) (having-append f k a b)
  where
    go : (t : Bool) → having f k (a ++ b) ≡ having f k a ++ having f k b
        → cond t (x ∷ having f k (a ++ b)) (having f k (a ++ b))
        ≡ cond t (x ∷ having f k a) (having f k a) ++ having f k b
    go true e = ap (◌∷◌ x) e
    go false e = e

-- one number more
pub each-suc : {A : Type 0} (f : ℕ → List A) (n i : ℕ) → each f (suc n) i ≡ each f n i ++ f (i + n)
unfolding each
each-suc f zero i = let z : i + 0 ≡ i = omega arith in rw (z, append-nil (f i))
each-suc f (suc n) i =
    let e : suc i + n ≡ i + suc n = omega arith in
    ap (◌++◌ (f i)) (each-suc f n (suc i)) ∙ rw e (sym (append_assoc (f i) (each f n (suc i)) (f (i + suc n))))
