-- Forms by what the scans answer.
use Prim.Native.Nat.{ℕ, ◌-◌, ◌*◌, ◌^◌, ◌≤◌}
use mathlib.Core.Path.{◌≡◌, refl, sym, ap}
use mathlib.Core.Bool.{Bool, true, false, cond, ◌&&◌, and-false, true≢false}
use mathlib.Core.List.{List, [], ◌∷◌}
use native.Mathlib.Omega.{arith}
use lib.Dec.{leb, eqb}
use lib.ListN.{length, take, drop}
use borrow.Author.Tests.{leb-true}
use Rattle.std.specs.Cmp.Lexicographic.{pointwise}
use Rattle.std.specs.Prelude.{Some, None}
use Rattle.std.proofs.lemmas.Option.{cond_some}
use Rattle.spec.specs.Bytes.{all, digit, split, value_from, is_number}
use Rattle.lines.specs.Lines.{numeral, fraction, whole_form, point_form, by_point, decimal_form, coded_form}
use Rattle.lines.specs.Lines.{plain_form, by_colon, state_form}
use Rattle.lines.specs.declared.Form.TheVariants.{Decimal}
use Rattle.spec.proofs.Words.{and_left, and_right}
use Rattle.spec.proofs.Bytes.{parts-pos}
use Rattle.spec.proofs.Digits.{digits-lack}
use Rattle.spec.proofs.Cuts.{one-part, no_more}
use Rattle.scan.specs.Number.{number_of}

-- ---- numbers

-- a number that was read has a digit and is within its bound
pub record Numbered (bound : ℕ) (s : List ℕ) (n : ℕ) : Type 0 where
  pub some-digit : 1 ≤ length s
  pub small : n ≤ bound

number_digits : (limit bound : ℕ) (s : List ℕ) → is_number limit bound s ≡ true → all digit s ≡ true
unfolding is_number
number_digits limit bound s h =
    and_left (all digit s) _ (and_right (leb (length s) limit) _ (and_right (leb 1 (length s)) _ h))

pub numbered : (limit bound : ℕ) (s : List ℕ) (n : ℕ) → number_of limit bound s ≡ Some n → Numbered bound s n
unfolding number_of is_number
numbered limit bound s n e =
    let w = cond_some (is_number limit bound s) (value_from 0 s) n e in
    let z =
    leb-true (value_from 0 s) bound
    (and_right (all digit s) _ (and_right (leb (length s) limit) _ (and_right (leb 1 (length s)) _ w.0))) in
    record { some-digit = leb-true _ _ (and_left (leb 1 (length s)) _ w.0); small = omega (arith, z, w.1) }

-- ---- parts

pub point-whole : (minus : Bool) (w : List ℕ) → by_point minus (w ∷ []) ≡ whole_form minus w
unfolding by_point
point-whole minus w = refl

-- behind a point: one part, or no number
pub point-parts : (minus : Bool) (w f : List ℕ) → by_point minus (w ∷ split 46 f) ≡ point_form minus w f
unfolding by_point digit
point-parts minus w f = go (split 46 f) refl
  where
    two : (t : Bool) → fraction f ≡ t → (t ≡ true → ⊥)
        → None
        ≡ cond (numeral w && t) (Some (Decimal minus (value_from 0 w) (Some (value_from 0 f * 10 ^ (3 - length f))))) None
    two true e n = absurd (n refl)
    two false e n = rw (and-false (numeral w))

    go : (ps : List (List ℕ)) → split 46 f ≡ ps → by_point minus (w ∷ ps) ≡ point_form minus w f
    go [] e = let z = parts-pos 46 f in absurd (omega (arith, ap (λ (l : List (List ℕ)). length l) e))
    go (p ∷ []) e = rw (one-part 46 f p e)
    go (p ∷ q ∷ ps) e =
        two (fraction f) refl (λ t. no_more 46 f p q ps e (digits-lack 46 f refl (number_digits 3 999 f t)))

pub ruleset points = (point-whole, point-parts)

pub colon-plain : (s : List ℕ) → by_colon (s ∷ []) ≡ plain_form s
unfolding by_colon
colon-plain s = refl

-- and behind a ':'
pub colon-parts : (w c : List ℕ) → by_colon (w ∷ split 58 c) ≡ coded_form w c
unfolding by_colon digit
colon-parts w c = go (split 58 c) refl
  where
    two : (t : Bool) → (t ≡ true → ⊥) → None ≡ cond t (state_form w (value_from 0 c)) None
    two true n = absurd (n refl)
    two false n = refl

    go : (ps : List (List ℕ)) → split 58 c ≡ ps → by_colon (w ∷ ps) ≡ coded_form w c
    go [] e = let z = parts-pos 58 c in absurd (omega (arith, ap (λ (l : List (List ℕ)). length l) e))
    go (p ∷ []) e = rw (one-part 58 c p e)
    go (p ∷ q ∷ ps) e =
        two (numeral c) (λ t. no_more 58 c p q ps e (digits-lack 58 c refl (number_digits 10 9999999999 c t)))

pub ruleset colons = (colon-plain, colon-parts)

-- ---- signs

pub signed : (s t : List ℕ) → pointwise eqb (take 1 s) (45 ∷ []) ≡ true → t ≡ drop 1 s
    → decimal_form s ≡ by_point true (split 46 t)
unfolding decimal_form
signed [] t h e = absurd (true≢false (sym h))
signed (x ∷ s) t h e = rw (and_left (eqb x 45) _ h, e)

pub unsigned : (s : List ℕ) → pointwise eqb (take 1 s) (45 ∷ []) ≡ false
    → decimal_form s ≡ by_point false (split 46 s)
unfolding decimal_form by_point split is_number
unsigned [] h = refl
unsigned (x ∷ s) h = go (eqb x 45) h
  where
    go : (t : Bool) → t && true ≡ false
        → cond t (by_point true (split 46 s)) (by_point false (split 46 (x ∷ s))) ≡ by_point false (split 46 (x ∷ s))
    go true h = absurd (true≢false h)
    go false h = refl

pub ruleset signs = (signed, unsigned)
