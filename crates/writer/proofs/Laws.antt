-- Texts put one behind the other are one text put, whether they fit or not.
use Prim.Native.Nat.{ℕ, zero, suc, ◌+◌, ◌-◌, ◌/◌, ◌%◌, ◌^◌, ◌≤◌, ◌<◌}
use mathlib.Core.Path.{◌≡◌, refl, sym, ◌∙◌}
use mathlib.Core.Bool.{Bool, true, false}
use mathlib.Core.List.{List, [], ◌∷◌, ◌++◌, append_assoc}
use native.Mathlib.Nat.{add-zero, pow-suc, div-lt_iff_lt-mul, pow-le-pow_right}
use native.Mathlib.Numerals.{add-one}
use native.Mathlib.Omega.{arith}
use lib.Dec.{leb, lit<}
use borrow.Author.Tests.{leb-true, leb-false, eq-eqb, ne_eqb}
use lib.ListN.{length, set, take, drop, replicate, length-set, length-append, length-drop}
use lib.Seq.{sets, set_out, take_all, length-sets}
use Rattle.std.proofs.lemmas.List.{drop-set}
use Rattle.spec.specs.Bytes.{decimal}
use Rattle.lines.specs.Digits.{fixed}
use Rattle.spec.proofs.Digits.{left_text, decimal-last}
use Rattle.writer.specs.Puts.{stop, Put}
use Rattle.writer.specs.declared.Output.{Output}

sets-append : (o : List ℕ) (at : ℕ) (s t : List ℕ)
    → sets o at (s ++ t) ≡ sets (sets o at s) (at + length s) t
sets-append o at [] t = rw (add-zero at)
sets-append o at (x ∷ s) t =
    let e : suc at + length s ≡ at + suc (length s) = omega arith in
    rw (← e) (sets-append (set o at x) (suc at) s t)

-- behind its end nothing of a buffer changes
pub sets-out : (o : List ℕ) (at : ℕ) (s : List ℕ) → length o ≤ at → sets o at s ≡ o
sets-out o at [] h = refl
sets-out o at (x ∷ s) h = rw (set_out o at x h) (sets-out o (suc at) s (omega arith))

-- what comes behind the buffer's end changes nothing of it
pub sets-room : (n : ℕ) (o : List ℕ) (at : ℕ) (s : List ℕ) → length o ≤ at + n → sets o at (take n s) ≡ sets o at s
sets-room zero o at s h = sym (sets-out o at s (omega arith))
sets-room (suc n) o at [] h = refl
sets-room (suc n) o at (x ∷ s) h =
    let k = length-set o at x in
    sets-room n (set o at x) (suc at) s (omega arith)

pub put-none : (a : Output) → length a.bytes.now ≤ stop → Put a [] a
put-none a h = record { same = refl; short = h; stands = refl; place = omega arith }

module _ {a : Output} {s : List ℕ} {b : Output} {t : List ℕ} {e : Output} (p : Put a s b) (q : Put b t e) where
  pub put-append : Put a (s ++ t) e
  put-append = record {
    same = q.same ∙ p.same;
    short = p.short;
    stands = q.stands ∙ rw p.stands (go (leb (a.at + length s) stop) refl);
    place = q.place ∙ rw (length-append s t) (omega (arith, p.place));
  }
    where
      go : (f : Bool) → leb (a.at + length s) stop ≡ f
          → sets (sets a.bytes.now a.at s) b.at t ≡ sets a.bytes.now a.at (s ++ t)
      go true e =
          let l = leb-true (a.at + length s) stop e in
          let r : b.at ≡ a.at + length s = omega (arith, p.place) in
          rw (r, sets-append a.bytes.now a.at s t)
      go false e =
          let l = leb-false (a.at + length s) stop e in
          let r : stop ≤ b.at = omega (arith, p.place) in
          let k = length-sets a.bytes.now a.at s in
          rw (
            sets-append a.bytes.now a.at s t,
            sets-out (sets a.bytes.now a.at s) b.at t (omega (arith, p.short)),
            sets-out (sets a.bytes.now a.at s) (a.at + length s) t (omega (arith, p.short)),
          )

-- ---- the last k digits of a number, from the last one on

-- the digits from i on are made, and `left` has the others
pub record Filling (k n : ℕ) (digits : List ℕ) (i left : ℕ) : Type 0 where
  pub inside : i ≤ k
  pub len : length digits ≡ k
  pub text : fixed k n ≡ fixed i left ++ drop i digits

pub filling-more : {k n : ℕ} {digits : List ℕ} {i left : ℕ} → Filling k n digits i left → 0 < i
    → Filling k n (set digits (i - 1) (48 + left % 10)) (i - 1) (left / 10)
unfolding fixed
filling-more {i = zero} r h = absurd (omega arith)
filling-more {k} {n} {digits} {i = suc i} {left} r h =
    let q : suc i - 1 ≡ i = omega arith in
    let room : i < length digits = omega (arith, r.len, r.inside) in
    rw q (record {
      inside = omega (arith, r.inside);
      len = length-set digits i (48 + left % 10) ∙ r.len;
      text = r.text
          ∙ rw (append_assoc (fixed i (left / 10)) _ _, drop-set digits i (48 + left % 10) room, add-one i);
    })

pub filling-all : {k n : ℕ} {digits : List ℕ} {left : ℕ} → Filling k n digits 0 left → digits ≡ fixed k n
unfolding fixed
filling-all r = sym r.text

-- ---- the digits of a number, from the last one on

-- the digits from i on are made, and `left` has the others
pub record Making (n : ℕ) (digits : List ℕ) (i left : ℕ) : Type 0 where
  pub place : i ≤ 19
  pub small : left < 10 ^ i
  pub len : length digits ≡ 20
  pub text : decimal n ≡ left_text left ++ drop i digits

pub making-last : (n : ℕ) → n < 2 ^ 64 → Making n (set (replicate 20 0) 19 (48 + n % 10)) 19 (n / 10)
making-last n h = record { place = omega arith; small = omega arith; len = refl; text = decimal-last n h }

module _ {n : ℕ} {digits : List ℕ} {i left : ℕ} (r : Making n digits i left) where
  pub making-room : 0 < left → 1 ≤ i
  making-room h = go i r.small
    where
      go : (i : ℕ) → left < 10 ^ i → 1 ≤ i
      go zero k = absurd (omega arith)
      go (suc i) k = omega arith

  pub making-more : n < 2 ^ 64 → 0 < left → Making n (set digits (i - 1) (48 + left % 10)) (i - 1) (left / 10)
  making-more b h = go i (making-room h) r.place r.small r.text
    where
      go : (i : ℕ) → 1 ≤ i → i ≤ 19 → left < 10 ^ i → decimal n ≡ left_text left ++ drop i digits
          → Making n (set digits (i - 1) (48 + left % 10)) (i - 1) (left / 10)
      go zero l p s t = absurd (omega arith)
      go (suc i) l p s t =
          let q : suc i - 1 ≡ i = omega arith in
          let z : left < 2 ^ 64 = omega (arith, pow-le-pow_right {n = 10} (lit< tt) {i = suc i} {j = 19} p) in
          rw q (record {
            place = omega arith;
            small = (div-lt_iff_lt-mul (lit< tt)).1 (omega (arith, pow-suc 10 i));
            len = length-set digits i (48 + left % 10) ∙ r.len;
            text = t ∙ rw (
              ne_eqb left 0 (λ e. omega arith),
              decimal-last left z,
              append_assoc (left_text (left / 10)) _ _,
              drop-set digits i (48 + left % 10) (omega (arith, r.len)),
              add-one i,
            );
          })

  pub making-all : left ≡ 0 → {a e : Output} → Put a (take (20 - i) (drop i digits)) e → Put a (decimal n) e
  making-all e b =
      let z = length-drop i digits in
      rw (r.text, eq-eqb left 0 e) (rw (take_all (20 - i) (drop i digits) (omega (arith, r.len))) at b)
