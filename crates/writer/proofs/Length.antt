-- How many digits a number has.
use Prim.Native.Nat.{ℕ, ◌+◌, ◌*◌, ◌/◌, ◌^◌, ◌≤◌, ◌<◌, max}
use mathlib.Core.Path.{◌≡◌, refl}
use native.Mathlib.Nat.{pow-suc, pow-le-pow_right}
use native.Mathlib.Numerals.{add-one}
use native.Mathlib.Omega.{arith}
use lib.Dec.{leb, lit<}
use lib.ListN.{length}
use borrow.Author.Tests.{leb-true, leb-false}
use Rattle.spec.specs.Bytes.{decimal}
use Rattle.spec.proofs.Words.{by-test}
use Rattle.spec.proofs.Digits.{decimal-spells, spelled-lt}

-- as many as powers of ten from 1 on are no greater; 0 has one digit too
decimal-powers : (n k : ℕ) → 10 ^ k ≤ max n 1 → max n 1 < 10 * 10 ^ k → k < 20 → k + 1 ≡ length (decimal n)
decimal-powers n k l u h =
    let s = decimal-spells k n (omega arith) (omega (arith, pow-suc 10 k)) in
    let v = rw s.value at (spelled-lt (decimal n) s.classed) in
    by-test (leb (length (decimal n)) k)
    (λ e. absurd (omega (
      arith,
      v,
      pow-le-pow_right {n = 10} (lit< tt) {i = 1} {j = length (decimal n)} s.some-digit,
      pow-le-pow_right {n = 10} (lit< tt) {i = length (decimal n)} {j = k} (leb-true _ k e),
    )))
    (λ e. omega (arith, leb-false (length (decimal n)) k e, s.few))

-- a power of ten that the loop has come to: 1, or at most n
pub record Powers (n power more : ℕ) : Type 0 where
  pub is : power ≡ 10 ^ more
  pub some : 1 ≤ power
  pub within : power ≤ max n 1

pub powers-first : (n : ℕ) → Powers n 1 0
powers-first n = record { is = refl; some = omega arith; within = omega arith }

module _ {n power more : ℕ} (r : Powers n power more) where
  pub powers-few : n < 2 ^ 64 → more < 20
  powers-few h =
      by-test (leb 20 more)
      (λ e. absurd (omega (
        arith,
        r.is,
        r.within,
        pow-le-pow_right {n = 10} (lit< tt) {i = 20} {j = more} (leb-true 20 more e),
      )))
      (λ e. omega (arith, leb-false 20 more e))

  pub powers-next : power ≤ n / 10 → Powers n (power * 10) (more + 1)
  powers-next h = record {
    is = rw (add-one more) (omega (arith, r.is, pow-suc 10 more));
    some = omega (arith, r.some);
    within = omega arith;
  }

  pub powers-last : n < 2 ^ 64 → n / 10 < power → 1 + more ≡ length (decimal n)
  powers-last b h =
      let u : max n 1 < 10 * power = omega (arith, r.some) in
      omega (arith, decimal-powers n more (rw r.is at r.within) (rw r.is at u) (powers-few b))

-- 20 digits reach for every number below 2^64
pub decimal-few : (n : ℕ) → n < 2 ^ 64 → length (decimal n) ≤ 20
decimal-few n h = (decimal-spells 19 n (omega arith) (omega arith)).few
