-- What the other laws rest on: keys of packed words, the parts of a mark, places of keys among marks.
use mathlib.Core.Path.{◌≡◌}
use mathlib.Core.Bool.{true, false}
use Prim.Native.Nat.{ℕ, suc, ◌^◌, ◌≤◌, ◌<◌}
use native.Mathlib.Omega.{arith}
use mathlib.Core.List.{List, [], ◌∷◌}
use lib.Dec.{eqb, eqb-suc-suc, eqb-zero-suc}
use lib.ListN.{length}
use Rattle.spec.specs.Entries.{active, active_as, code_field}
use Rattle.spec.proofs.Words.{by-test, by_cond}
use Rattle.std.specs.Prelude.{nat_lt}
use borrow.Author.Tests.{ltb-true}
use Rattle.marks.specs.Marks.{mark_of, place_in, key_in, key_of, key_place, free_place, place_of}

-- ---- keys

-- an active entry's key is its code's
pub key-active : (own w : ℕ) → active own w ≡ true → key_of own w ≡ suc (code_field w)
unfolding key_of
key-active own w a = rw a

-- any other's is 0
pub key-idle : (own w : ℕ) → active own w ≡ false → key_of own w ≡ 0
unfolding key_of
key-idle own w a = rw a

pub active-key : (own w : ℕ) → (key_of own w ≡ 0 → ⊥) → active own w ≡ true
active-key own w n = by-test (active own w) (λ a. a) (λ a. absurd (n (key-idle own w a)))

pub idle-key : (own w : ℕ) → key_of own w ≡ 0 → active own w ≡ false
idle-key own w z = by-test (active own w) (λ a. absurd (omega (arith, key-active own w a))) (λ a. a)

pub key-small : (own w : ℕ) → key_of own w < 2 ^ 32
key-small own w =
    by-test (active own w)
    (λ a. omega (arith, key-active own w a))
    (λ a. omega (arith, key-idle own w a))

-- a key that isn't 0 is that of the active entry of its code
pub key-eqb : (own c w : ℕ) → eqb (key_of own w) (suc c) ≡ active_as own c w
key-eqb own c w =
    by-test (active own w)
    (λ a. rw (key-active own w a, a) (eqb-suc-suc (code_field w) c))
    (λ a. rw (key-idle own w a, a) (eqb-zero-suc c))

-- ---- the parts of a mark

pub mark-some : (place key : ℕ) → 0 < place → 0 < mark_of place key
mark-some place key h = omega arith

pub mark-key : (place key : ℕ) → key < 2 ^ 32 → key_in (mark_of place key) ≡ key
mark-key place key h = omega arith

pub mark-place : (place key : ℕ) → key < 2 ^ 32 → place_in (mark_of place key) ≡ place
mark-place place key h = omega arith

-- ---- places

-- a place is one of the marks, or how many there are
free-max : (ms : List ℕ) → free_place ms ≤ length ms
unfolding free_place
free-max [] = omega arith
free-max (x ∷ xs) =
    by_cond (λ j. j ≤ suc (length xs)) (eqb x 0) _ _
    (λ e. omega arith)
    (λ e. omega (arith, free-max xs))

pub place-max : (key : ℕ) (ms : List ℕ) → place_of key ms ≤ length ms
unfolding place_of
place-max key ms =
    by_cond (λ j. j ≤ length ms) (nat_lt (key_place key ms) (length ms)) _ _
    (λ e. omega (arith, ltb-true (key_place key ms) (length ms) e))
    (λ e. free-max ms)
