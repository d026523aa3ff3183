-- A number that was looked for, and what its finding tells.
use Prim.Native.Nat.{ℕ, ◌≤◌, ◌<◌}
use mathlib.Core.Path.{◌≡◌, refl, sym}
use mathlib.Core.Bool.{Bool, true, false, cond}
use lib.Dec.{ltb}
use borrow.Author.Tests.{lt-ltb, le-ltb, ltb-true, ltb-false}
use Rattle.std.specs.Bool.{then_some}
use Rattle.std.specs.Prelude.{Some, None}
use Rattle.std.proofs.lemmas.Option.{cond_some}
use Rattle.spec.specs.Found.{found_below}

-- ---- a choice between a value and None; the other way round std's cond_some tells

pub cond-none : {A : Type 0} (t : Bool) (x : A) → None ≡ cond t (Some x) None → t ≡ false
cond-none true x e = cc
cond-none false x e = refl

pub then-some : {A : Type 0} (t : Bool) (x : A) → then_some t x ≡ cond t (Some x) None
then-some true x = refl
then-some false x = refl

-- ---- a number that was looked for

module _ (n : ℕ) {i : ℕ} where
  pub found-some : {j : ℕ} → j ≡ i → j < n → Some j ≡ found_below n i
  found-some e h = rw (← e, lt-ltb _ n h)

  pub found-none : n ≤ i → None ≡ found_below n i
  found-none h = rw (le-ltb i n h)

  pub found-is : {j : ℕ} → Some j ≡ found_below n i → (j ≡ i) × (i < n)
  found-is {j} e = let s = cond_some (ltb i n) i j (sym e) in (sym s.1, ltb-true i n s.0)

  pub found-not : None ≡ found_below n i → n ≤ i
  found-not e = ltb-false i n (cond-none (ltb i n) i e)
