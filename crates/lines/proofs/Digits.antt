-- A fixed count of digits reads back.
use Prim.Native.Nat.{ℕ, zero, suc, ◌/◌, ◌^◌, ◌<◌}
use mathlib.Core.Path.{◌≡◌, refl}
use mathlib.Core.Bool.{true}
use native.Mathlib.Omega.{arith}
use lib.ListN.{length, length-append}
use Rattle.spec.specs.Bytes.{all, digit, value_from}
use Rattle.lines.specs.Digits.{fixed}
use Rattle.spec.proofs.Digits.{value-last, all-last, tenth}

pub fixed-length : (k n : ℕ) → length (fixed k n) ≡ k
unfolding fixed
fixed-length zero n = refl
fixed-length (suc k) n = simp (length-append, fixed-length k (n / 10)) (omega arith)

pub fixed-digits : (k n : ℕ) → all digit (fixed k n) ≡ true
unfolding fixed all
fixed-digits zero n = refl
fixed-digits (suc k) n = all-last (fixed k (n / 10)) n (fixed-digits k (n / 10))

pub fixed-value : (k n : ℕ) → n < 10 ^ k → value_from 0 (fixed k n) ≡ n
unfolding fixed value_from
fixed-value zero n h = omega arith
fixed-value (suc k) n h = value-last (fixed k (n / 10)) n (fixed-value k (n / 10) (tenth k n h))
