-- The head that start writes, a right head by itself, and what a number overwrites.
use Prim.Native.Nat.{ℕ, suc, ◌+◌, ◌-◌, ◌*◌, ◌≤◌, ◌<◌}
use mathlib.Core.Path.{◌≡◌, ap}
use mathlib.Core.List.{List}
use native.Mathlib.Omega.{arith}
use lib.ListN.{set, replicate, length-set}
use Rattle.history.specs.Observations.{store_words, Head, blank}
use Rattle.spec.specs.Model.{max_items}
use Rattle.observations.specs.Headed.{Headed}
use Rattle.observations.specs.Ring.{ring_time, ring_word, overwritten_at}
use borrow.Author.Tests.{leb-true, leb-false}
use lib.Dec.{leb}
use Rattle.std.specs.Prelude.{Some, None}
use Rattle.spec.proofs.Words.{by-test}
use Rattle.spec.specs.declared.Row.{Row}
use Rattle.history.proofs.Observations.{head_of}

pub blank-words : (n m b k : ℕ) → k ≡ store_words n m
    → set (set (set (set (replicate k 0) 0 n) 1 m) 2 b) 3 (b - 1) ≡ blank n m b
unfolding blank
blank-words n m b k e =
    let f : k ≡ suc (suc (suc (suc (2 * n + 48 * m)))) = omega arith in
    rw f

-- the head's words keep the length
pub ruleset lengths = (length-set)

-- a head that is right for m items says so itself
pub headed : {m : ℕ} {st : List ℕ} → Head m st → m ≤ max_items → Headed st
headed h l = record { head = head_of h.m_is _ h; few = rw h.m_is l }

-- what a number overwrites, if anything
module _ (st : List ℕ) (n b s p : ℕ) where
  pub none-overwritten : None ≡ overwritten_at st n b s p → s - b < n
  none-overwritten e =
      by-test (leb n (s - b))
      (λ f. let z : ◌≡◌ {A = ℕ} 0 1 = cc (rw f at e) in absurd (omega arith))
      (λ f. leb-false n (s - b) f)

  pub some-overwritten : {r : Row} → Some r ≡ overwritten_at st n b s p
      → (n ≤ s - b) × ((r.number ≡ s - n) × ((r.time ≡ ring_time st n p) × (r.packed ≡ ring_word st n p)))
  some-overwritten {r} e =
      by-test (leb n (s - b))
      (λ f.
      let q : r ≡ record { number = s - n; time = ring_time st n p; packed = ring_word st n p } = cc (rw f at e) in
      (leb-true n (s - b) f, (ap (λ (x : Row). x.number) q, (ap (λ (x : Row). x.time) q, ap (λ (x : Row). x.packed) q))))
      (λ f. let z : ◌≡◌ {A = ℕ} 0 1 = cc (rw f at e) in absurd (omega arith))
