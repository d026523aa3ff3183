-- Facts about H alone: numbered one after another, the newest of an item, the parts between two numbers.
use mathlib.Core.Path.{◌≡◌, refl, ap}
use mathlib.Core.Logic.{◌≢◌}
use mathlib.Core.Bool.{Bool, true, false, cond, and-false}
use Prim.Native.Nat.{ℕ, zero, suc, ◌+◌, ◌-◌, ◌*◌, ◌/◌, ◌%◌, ◌≤◌, ◌<◌}
use native.Mathlib.Nat.{div-add-mod', mul-le-mul_right, suc-mul}
use native.Mathlib.Omega.{arith}
use mathlib.Core.List.{List, [], ◌∷◌, ◌++◌}
use lib.Dec.{leb, ltb, eqb}
use lib.ListN.{length, get_or, length-append, get_or-append}
use lib.Seq.{slice, take-nil, drop-nil, get_or-append_seam}
use borrow.Author.Tests.{ltb-true, ltb-false, leb-true, leb-false, eqb-true}
use Rattle.spec.proofs.Words.{by-test}
use Rattle.history.specs.Reference.{Observation, nothing, keep, newest_or, newest, last_or, within}

-- H's numbers are B, B + 1, ..
abbrev pub Numbered : ℕ → List Observation → Type 0
Numbered B [] = Unit {0}
Numbered B (o ∷ H) = (o.number ≡ B) × Numbered (suc B) H

pub numbered-at : (H : List Observation) (B k : ℕ) → Numbered B H → k < length H → (get_or H k nothing).number ≡ B + k
numbered-at [] B k n h = omega arith
numbered-at (o ∷ H) B zero n h = omega (arith, n.0)
numbered-at (o ∷ H) B (suc k) n h = omega (arith, numbered-at H (suc B) k n.1 (omega arith))

pub numbered-append : (H : List Observation) (B : ℕ) (o : Observation) → Numbered B H → o.number ≡ B + length H
    → Numbered B (H ++ (o ∷ []))
numbered-append [] B o n e = (omega arith, tt)
numbered-append (x ∷ H) B o n e = (n.0, numbered-append H (suc B) o n.1 (omega arith))

pub newest_or-append : (X Y : List Observation) (d : Observation) (i : ℕ)
    → newest_or d i (X ++ Y) ≡ newest_or (newest_or d i X) i Y
unfolding newest_or
newest_or-append [] Y d i = refl
newest_or-append (o ∷ X) Y d i = newest_or-append X Y (cond (eqb o.item i) o d) i

pub last_or-numbered : (H : List Observation) (B d : ℕ) → Numbered B H → suc d ≡ B → suc (last_or d H) ≡ B + length H
unfolding last_or
last_or-numbered [] B d n e = omega arith
last_or-numbered (o ∷ H) B d n e = omega (arith, last_or-numbered H (suc B) o.number n.1 (ap suc n.0))

pub within-slice : (H : List Observation) (B f e : ℕ) → Numbered B H → within f e H ≡ slice (f - B) (e - B) H
unfolding keep
within-slice [] B f e n = rw (take-nil {A = Observation} (e - B), drop-nil {A = Observation} (f - B))
within-slice (o ∷ H) B f e n = go (leb f o.number) (ltb o.number e) refl refl (within-slice H (suc B) f e n.1)
  where
    go : (p q : Bool) → leb f o.number ≡ p → ltb o.number e ≡ q → within f e H ≡ slice (f - suc B) (e - suc B) H
        → within f e (o ∷ H) ≡ slice (f - B) (e - B) (o ∷ H)
    go p false hp hq ih =
        let z : e - B ≡ 0 = omega (arith, ltb-false, n.0) in
        let z' : e - suc B ≡ 0 = omega (arith, ltb-false, n.0) in
        rw (hp, hq, and-false, ih, z, z', drop-nil {A = Observation} (f - suc B), drop-nil {A = Observation} (f - B))
    go false true hp hq ih =
        let z : e - B ≡ suc (e - suc B) = omega (arith, ltb-true, n.0) in
        let z' : f - B ≡ suc (f - suc B) = omega (arith, leb-false, n.0) in
        rw (hp, ih, z, z')
    go true true hp hq ih =
        let z : e - B ≡ suc (e - suc B) = omega (arith, ltb-true, n.0) in
        let z' : f - B ≡ 0 = omega (arith, leb-true, n.0) in
        let z'' : f - suc B ≡ 0 = omega (arith, leb-true, n.0) in
        rw (hp, hq, ih, z, z', z'')

pub keep_append : (q : Observation → Bool) (X Y : List Observation) → keep q (X ++ Y) ≡ keep q X ++ keep q Y
unfolding keep
keep_append q [] Y = refl
keep_append q (x ∷ X) Y = by-test (q x) (λ e. rw (e, keep_append q X Y)) (λ e. rw (e, keep_append q X Y))

-- what holds of each element of H, and of o behind them, holds of each element of H with o
pub each_append : (P : ℕ → Observation → Type 0) (H : List Observation) (o : Observation)
    → ((k : ℕ) → k < length H → P k (get_or H k nothing)) → P (length H) o
    → (k : ℕ) → k < length (H ++ (o ∷ [])) → P k (get_or (H ++ (o ∷ [])) k nothing)
each_append P H o all new k h = go (ltb k (length H)) refl
  where
    go : (b : Bool) → ltb k (length H) ≡ b → P k (get_or (H ++ (o ∷ [])) k nothing)
    go true e = rw (get_or-append H (o ∷ []) nothing k (omega (arith, ltb-true))) (all k (omega (arith, ltb-true)))
    go false e =
        let q : k ≡ length H = omega (arith, ltb-false, length-append H (o ∷ [])) in
        rw (q, get_or-append_seam H o [] nothing) new

-- the newest with one more
pub newest-snoc : (G : List Observation) (o : Observation) (i : ℕ)
    → newest i (G ++ (o ∷ [])) ≡ cond (eqb o.item i) o (newest i G)
unfolding newest_or
newest-snoc G o i = newest_or-append G (o ∷ []) nothing i

-- two numbers less than N apart have different places in a ring of N
pub mod-apart : (N k j : ℕ) → k < j → j < k + N → k % N ≢ j % N
mod-apart N k j h l e = go (ltb (k / N) (j / N)) refl
  where
    go : (b : Bool) → ltb (k / N) (j / N) ≡ b → ⊥
    go true t =
        let q : suc (k / N) * N ≤ j / N * N = mul-le-mul_right N (ltb-true (k / N) (j / N) t) in
        omega (arith, div-add-mod' k N, div-add-mod' j N, suc-mul (k / N) N)
    go false t =
        let q : j / N * N ≤ k / N * N = mul-le-mul_right N (ltb-false (k / N) (j / N) t) in
        omega (arith, div-add-mod' k N, div-add-mod' j N)

pub last_or-append : (H : List Observation) (d : ℕ) (o : Observation) → last_or d (H ++ (o ∷ [])) ≡ o.number
unfolding last_or
last_or-append [] d o = refl
last_or-append (x ∷ H) d o = last_or-append H x.number o

pub last_or-some : (H : List Observation) (B d : ℕ) → Numbered B H → 0 < length H → suc (last_or d H) ≡ B + length H
unfolding last_or
last_or-some [] B d n h = omega arith
last_or-some (o ∷ H) B d n h = omega (arith, last_or-numbered H (suc B) o.number n.1 (ap suc n.0))

-- the newest of an item is of that item, where there is one
pub newest_or-item : (H : List Observation) (d : Observation) (i : ℕ) → d.item ≡ i → (newest_or d i H).item ≡ i
unfolding newest_or
newest_or-item [] d i e = e
newest_or-item (o ∷ H) d i e = newest_or-item H (cond (eqb o.item i) o d) i (go (eqb o.item i) refl)
  where
    go : (t : Bool) → eqb o.item i ≡ t → (cond t o d).item ≡ i
    go true q = eqb-true o.item i q
    go false q = e
