-- Words are compared as the values are: packed words of one item are equal exactly where the reference model's values are.
use Prim.Native.Nat.{ℕ}
use mathlib.Core.Path.{◌≡◌, refl, sym, ap, ap₂}
use mathlib.Core.Bool.{true, and-eq-true_iff, true≢false}
use lib.Dec.{eqb}
use lib.IntN.{ℤ, pos, negsuc}
use borrow.Author.Tests.{eq-eqb, eqb-true}
use Rattle.spec.specs.Value.{pack}
use Rattle.history.specs.Recorded.{eq_sample, eq_level, eq_value}
use Rattle.spec.specs.declared.Level.{Level}
use Rattle.spec.specs.declared.Level.TheVariants.{Normal, Warning, Fault}
use Rattle.spec.specs.declared.Value.{Value}
use Rattle.spec.specs.declared.Value.TheVariants.{Unavailable, Sample, Event, Condition}
use Rattle.std.specs.Cmp.{both_ways}
use Rattle.spec.proofs.Packing.{Coded, pack-coded}

eq_sample-true : (x y : ℤ) → eq_sample x y ≡ true → x ≡ y
eq_sample-true (pos a) (pos b) h = ap pos (eqb-true a b h)
eq_sample-true (pos a) (negsuc b) h = absurd (true≢false (sym h))
eq_sample-true (negsuc a) (pos b) h = absurd (true≢false (sym h))
eq_sample-true (negsuc a) (negsuc b) h = ap negsuc (eqb-true a b h)

eq_level-true : (l k : Level) → eq_level l k ≡ true → l ≡ k
eq_level-true Normal Normal h = refl
eq_level-true Normal Warning h = absurd (true≢false (sym h))
eq_level-true Normal Fault h = absurd (true≢false (sym h))
eq_level-true Warning Normal h = absurd (true≢false (sym h))
eq_level-true Warning Warning h = refl
eq_level-true Warning Fault h = absurd (true≢false (sym h))
eq_level-true Fault Normal h = absurd (true≢false (sym h))
eq_level-true Fault Warning h = absurd (true≢false (sym h))
eq_level-true Fault Fault h = refl

pub eq_value-true : (v w : Value) → eq_value v w ≡ true → v ≡ w
eq_value-true Unavailable Unavailable h = refl
eq_value-true Unavailable (Sample y) h = absurd (true≢false (sym h))
eq_value-true Unavailable (Event d) h = absurd (true≢false (sym h))
eq_value-true Unavailable (Condition k d) h = absurd (true≢false (sym h))
eq_value-true (Sample x) Unavailable h = absurd (true≢false (sym h))
eq_value-true (Sample x) (Sample y) h = ap Sample (eq_sample-true x y h)
eq_value-true (Sample x) (Event d) h = absurd (true≢false (sym h))
eq_value-true (Sample x) (Condition k d) h = absurd (true≢false (sym h))
eq_value-true (Event c) Unavailable h = absurd (true≢false (sym h))
eq_value-true (Event c) (Sample y) h = absurd (true≢false (sym h))
eq_value-true (Event c) (Event d) h = ap Event (eqb-true c d h)
eq_value-true (Event c) (Condition k d) h = absurd (true≢false (sym h))
eq_value-true (Condition l c) Unavailable h = absurd (true≢false (sym h))
eq_value-true (Condition l c) (Sample y) h = absurd (true≢false (sym h))
eq_value-true (Condition l c) (Event d) h = absurd (true≢false (sym h))
eq_value-true (Condition l c) (Condition k d) h =
    let t = (and-eq-true_iff (eq_level l k) (eqb c d)).0 h in
    ap₂ Condition (eq_level-true l k t.0) (eqb-true c d t.1)

eq_level-refl : (l : Level) → eq_level l l ≡ true
eq_level-refl Normal = refl
eq_level-refl Warning = refl
eq_level-refl Fault = refl

pub eq_value-refl : (v : Value) → eq_value v v ≡ true
eq_value-refl Unavailable = refl
eq_value-refl (Sample (pos n)) = eq-eqb n n refl
eq_value-refl (Sample (negsuc n)) = eq-eqb n n refl
eq_value-refl (Event c) = eq-eqb c c refl
eq_value-refl (Condition l c) = rw (eq_level-refl l) (eq-eqb c c refl)

pub eq_value-eq : (v w : Value) → v ≡ w → eq_value v w ≡ true
eq_value-eq v w e = rw e (eq_value-refl w)

pub compare-coded : (item : ℕ) (v w : Value) → Coded v → Coded w → eqb (pack item v) (pack item w) ≡ eq_value v w
compare-coded item v w hv hw =
    both_ways (eqb (pack item v) (pack item w)) (eq_value v w)
    (λ e. eq_value-eq v w (pack-coded item v w hv hw (eqb-true _ _ e)))
    (λ e. eq-eqb _ _ (ap (pack item) (eq_value-true v w e)))
