-- Digits read back: a number is what its digits spell.
use Prim.Native.Nat.{ℕ, zero, suc, ◌+◌, ◌-◌, ◌*◌, ◌/◌, ◌%◌, ◌^◌, ◌≤◌, ◌<◌}
use mathlib.Core.Path.{◌≡◌, refl, sym, ap, ◌∙◌}
use mathlib.Core.Bool.{Bool, true, false, cond, ◌&&◌, not, true≢false}
use mathlib.Core.List.{List, [], ◌∷◌, ◌++◌}
use native.Mathlib.Nat.{pow-suc, add-suc, suc-add, add-zero, zero-add, div-lt_iff_lt-mul, le_of_suc-le-suc}
use native.Mathlib.Omega.{arith}
use lib.Dec.{leb, ltb, eqb, lit<}
use lib.ListN.{length, length-append}
use borrow.Author.Tests.{le-leb, lt-ltb, eq-eqb, ne_eqb, leb-true, ltb-true, ltb-false}
use Rattle.spec.specs.Bytes.{all, digit, value_from, digits, decimal, is_number}
use Rattle.spec.proofs.Words.{and_left, and_right}
use Rattle.spec.proofs.Bytes.{Lacks, all_append, all-imp}

pub value-append : (m : ℕ) (s t : List ℕ) → value_from m (s ++ t) ≡ value_from (value_from m s) t
unfolding value_from
value-append m [] t = refl
value-append m (x ∷ s) t = value-append (m * 10 + (x - 48)) s t

pub digit-is : (n : ℕ) → digit (48 + n % 10) ≡ true
unfolding digit
digit-is n = rw (le-leb 48 (48 + n % 10) (omega arith), le-leb (48 + n % 10) 57 (omega arith))

-- a digit is no other byte
pub digit-other : (b : ℕ) → digit b ≡ false → (x : ℕ) → digit x ≡ true → not (eqb x b) ≡ true
digit-other b n x d = rw (ne_eqb x b (λ e. true≢false (sym d ∙ ap digit e ∙ n)))

pub digits-lack : (b : ℕ) (s : List ℕ) → digit b ≡ false → all digit s ≡ true → Lacks b s
digits-lack b s n h = all-imp {p = digit} (digit-other b n) s h

-- one step of value_from behind s
pub value-last : (s : List ℕ) (n : ℕ) → value_from 0 s ≡ n / 10
    → value_from 0 (s ++ (48 + n % 10) ∷ []) ≡ n
unfolding value_from
value-last s n h = rw (value-append 0 s _, h) (omega arith)

pub all-last : (s : List ℕ) (n : ℕ) → all digit s ≡ true → all digit (s ++ (48 + n % 10) ∷ []) ≡ true
unfolding all
all-last s n h = rw (all_append digit s _, h, digit-is n)

pub tenth : (k n : ℕ) → n < 10 ^ suc k → n / 10 < 10 ^ k
tenth k n h = (div-lt_iff_lt-mul (lit< tt)).1 (omega (arith, pow-suc 10 k))

-- digits behind a number of j digits spell no more digits than there are
value-lt : (s : List ℕ) (j m : ℕ) → all digit s ≡ true → m < 10 ^ j → value_from m s < 10 ^ (j + length s)
unfolding all digit value_from
value-lt [] j m h l = rw (add-zero j) l
value-lt (x ∷ s) j m h l =
    let u = leb-true x 57 (and_right (leb 48 x) (leb x 57) (and_left (leb 48 x && leb x 57) (all digit s) h)) in
    let n : m * 10 + (x - 48) < 10 ^ suc j = omega (arith, pow-suc 10 j) in
    rw (add-suc j (length s), ← suc-add j (length s))
    (value-lt s (suc j) (m * 10 + (x - 48)) (and_right (leb 48 x && leb x 57) (all digit s) h) n)

-- k digits spell a number below 10^k
pub spelled-lt : (s : List ℕ) → all digit s ≡ true → value_from 0 s < 10 ^ length s
spelled-lt s h = rw (zero-add (length s)) at (value-lt s 0 0 h (omega arith))

-- ---- as many digits as a number has

-- s is 1 to suc j digits that spell n
pub record Spells (j n : ℕ) (s : List ℕ) : Type 0 where
  pub some-digit : 1 ≤ length s
  pub few : length s ≤ suc j
  pub classed : all digit s ≡ true
  pub value : value_from 0 s ≡ n

one-digit : (j n : ℕ) → n < 10 → Spells j n ((48 + n % 10) ∷ [])
unfolding all value_from
one-digit j n h = record { some-digit = omega arith; few = omega arith; classed = rw (digit-is n); value = omega arith }

more-digits : (j n : ℕ) {s : List ℕ} → Spells j (n / 10) s → Spells (suc j) n (s ++ (48 + n % 10) ∷ [])
more-digits j n {s} h =
    record {
      some-digit = simp length-append (omega arith);
      few = simp length-append (omega (arith, h.few));
      classed = all-last s n h.classed;
      value = value-last s n h.value;
    }

pub digits-spell : (k j n : ℕ) → j ≤ k → n < 10 ^ suc j → Spells j n (digits k n)
unfolding digits
digits-spell zero zero n l h = one-digit 0 n h
digits-spell zero (suc j) n l h = absurd (omega arith)
digits-spell (suc k) zero n l h = rw (lt-ltb n 10 h) (one-digit 0 n h)
digits-spell (suc k) (suc j) n l h =
    go (ltb n 10) refl (digits-spell k j (n / 10) (le_of_suc-le-suc l) (tenth (suc j) n h))
  where
    go : (t : Bool) → ltb n 10 ≡ t → Spells j (n / 10) (digits k (n / 10))
        → Spells (suc j) n (cond t ((48 + n % 10) ∷ []) (digits k (n / 10) ++ (48 + n % 10) ∷ []))
    go true e ih = one-digit (suc j) n (ltb-true n 10 e)
    go false e ih = more-digits j n ih

-- a number below 10^(suc j) has at most suc j digits
pub decimal-spells : (j n : ℕ) → j ≤ 19 → n < 10 ^ suc j → Spells j n (decimal n)
decimal-spells = digits-spell 19

pub spelled : {j n : ℕ} {s : List ℕ} (limit bound : ℕ) → Spells j n s → suc j ≤ limit → n ≤ bound
    → is_number limit bound s ≡ true
unfolding is_number
spelled {s} limit bound h l b =
    rw (
      le-leb 1 (length s) h.some-digit,
      le-leb (length s) limit (omega (arith, h.few)),
      h.classed,
      h.value,
      le-leb _ bound b,
    )

-- ---- digits from the last one on

-- the digits of what is left, none for 0
abbrev pub left_text : ℕ → List ℕ
left_text n = cond (eqb n 0) [] (decimal n)

-- room for more digits changes nothing
digits_more : (k n : ℕ) → n < 10 ^ suc k → digits (suc k) n ≡ digits k n
unfolding digits
digits_more zero n h = rw (lt-ltb n 10 h)
digits_more (suc k) n h = rw (digits_more k (n / 10) (tenth (suc k) n h))

pub decimal-last : (n : ℕ) → n < 2 ^ 64 → decimal n ≡ left_text (n / 10) ++ (48 + n % 10) ∷ []
unfolding digits
decimal-last n h = go (ltb n 10) refl
  where
    go : (t : Bool) → ltb n 10 ≡ t
        → cond t ((48 + n % 10) ∷ []) (digits 18 (n / 10) ++ (48 + n % 10) ∷ [])
        ≡ left_text (n / 10) ++ (48 + n % 10) ∷ []
    go true e = let l = ltb-true n 10 e in rw (eq-eqb (n / 10) 0 (omega arith))
    go false e =
        let l = ltb-false n 10 e in
        rw (ne_eqb (n / 10) 0 (λ z. omega arith), digits_more 18 (n / 10) (omega arith))
