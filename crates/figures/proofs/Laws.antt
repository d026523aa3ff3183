-- The text of a value by its cases.
use Prim.Native.Nat.{ℕ, ◌/◌, ◌%◌}
use mathlib.Core.Path.{◌≡◌, refl}
use mathlib.Core.Bool.{true, false}
use mathlib.Core.List.{[], ◌∷◌}
use native.Mathlib.Omega.{arith}
use borrow.Author.Tests.{eq-eqb, ne_eqb, ltb-true}
use lib.IntN.{ℤ, pos, negsuc}
use Rattle.std.specs.Prelude.{unsigned_abs}
use Rattle.std.specs.Int.{is_negative}
use Rattle.lines.specs.Digits.{fixed}
use Rattle.lines.specs.Lines.{part_text, point_text, unsigned_text, sample_text}

pub part-one : (p : ℕ) → p % 100 ≡ 0 → part_text p ≡ fixed 1 (p / 100)
unfolding part_text
part-one p e = rw (eq-eqb (p % 100) 0 e)

pub part-two : (p : ℕ) → (p % 100 ≡ 0 → ⊥) → p % 10 ≡ 0 → part_text p ≡ fixed 2 (p / 10)
unfolding part_text
part-two p n e = rw (ne_eqb (p % 100) 0 n, eq-eqb (p % 10) 0 e)

pub part-three : (p : ℕ) → (p % 100 ≡ 0 → ⊥) → (p % 10 ≡ 0 → ⊥) → part_text p ≡ fixed 3 p
unfolding part_text
part-three p n k = rw (ne_eqb (p % 100) 0 n, ne_eqb (p % 10) 0 k)

pub no-point : (p : ℕ) → p ≡ 0 → point_text p ≡ []
unfolding point_text
no-point p e = rw (eq-eqb p 0 e)

pub with-point : (p : ℕ) → (p ≡ 0 → ⊥) → point_text p ≡ 46 ∷ part_text p
unfolding point_text
with-point p n = rw (ne_eqb p 0 n)

-- a sample by its sign
pub signless : (x : ℤ) → is_negative x ≡ false → sample_text x ≡ unsigned_text (unsigned_abs x)
signless (pos n) e = refl
signless (negsuc n) e = cc

pub signed : (x : ℤ) → is_negative x ≡ true → sample_text x ≡ 45 ∷ unsigned_text (unsigned_abs x)
signed (pos n) e = absurd (omega (arith, ltb-true n 0 e))
signed (negsuc n) e = refl
