-- A written line reads back: the line of an observation gives its item, time and value, so no two have one line; and
-- what any line that reads can give. Document 02, Req 06.
use Prim.Native.Nat.{ℕ, zero, suc, ◌+◌, ◌*◌, ◌/◌, ◌%◌, ◌^◌, ◌≤◌, ◌<◌}
use mathlib.Core.Path.{◌≡◌, refl, sym, ap, ◌∙◌}
use mathlib.Core.Bool.{Bool, true, false, cond, ◌&&◌, not, and-eq-true_iff, true≢false}
use mathlib.Core.List.{List, [], ◌∷◌, ◌++◌, append-nil}
use native.Mathlib.Omega.{arith}
use Rattle.std.specs.Prelude.{Option, Some, None, Result, Ok, Err, is_some, unwrap_or}
use lib.Dec.{leb, ltb, eqb}
use lib.IntN.{ℤ, pos, negsuc}
use lib.ListN.{length}
use borrow.Author.Tests.{eqb-true, eqb-false, leb-true, ltb-true, lt-ltb, ne_eqb}
use Rattle.spec.specs.Words.{every}
use Rattle.spec.specs.Bytes.{bytes, all, same, split, join_first, digit, value_from, decimal, is_number}
use Rattle.lines.specs.Digits.{fixed}
use Rattle.spec.specs.Value.{no_value, takes, FitsSample, Fits}
use Rattle.lines.specs.Stamps.{formed, stamp_form, date_in, real_date, time_of, date_of, date_text, max_time}
use Rattle.lines.specs.Lines.{numeral, fraction, thousandths, by_point, decimal_form, level_word, state_form}
use Rattle.lines.specs.Lines.{by_colon, form_of, line_in, by_bar, read_line, reads, stamp_formed, stamp_real}
use Rattle.lines.specs.Lines.{time_in, sample_for, event_for, value_for, part_text, point_text, unsigned_text}
use Rattle.lines.specs.Lines.{sample_text}
use Rattle.lines.specs.Lines.{value_text, stamp_part, line_of}
use Rattle.spec.specs.declared.Level.{Level}
use Rattle.spec.specs.declared.Level.TheVariants.{Normal, Warning, Fault}
use Rattle.spec.specs.declared.Value.{Value}
use Rattle.spec.specs.declared.Value.TheVariants.{Unavailable, Sample, Event, Condition}
use Rattle.lines.specs.declared.Form.{Form}
use Rattle.lines.specs.declared.Form.TheVariants.{Missing, Decimal, State}
use Rattle.lines.specs.declared.Line.{Line}
use Rattle.lines.specs.declared.LineError.{LineError}
use Rattle.lines.specs.declared.LineError.TheVariants.{Malformed, BadStamp}
use Rattle.spec.proofs.Words.{and_right, every-at, by_cond}
use Rattle.spec.proofs.Packing.{Coded, taken-coded, no-value-fits}
use Rattle.spec.proofs.Bytes.{Lacks, all_append, all-imp, split-last, split-more, same-ne}
use Rattle.spec.proofs.Digits.{Spells, decimal-spells, spelled, digit-other, digits-lack}
use Rattle.lines.proofs.Stamps.{time-back, time-max, date-real, text-class, text-formed, text-back}
use Rattle.lines.proofs.Stamps.{text-length}

-- ---- which values a line can hold

-- the category reads such a value: a sample only in 0, an event in any other
abbrev pub Suits : ℕ → Value → Type 0
Suits category Unavailable = Unit {0}
Suits category (Sample x) = eqb category 0 ≡ true
Suits category (Event c) = eqb category 0 ≡ false
Suits category (Condition l c) = Unit {0}

-- ---- the form that each value's text has

abbrev pub part_of : ℕ → Option ℕ
part_of n = cond (eqb (n % 1000) 0) None (Some (n % 1000))

abbrev pub form_for : Value → Form
form_for Unavailable = Missing
form_for (Sample (pos n)) = Decimal false (n / 1000) (part_of n)
form_for (Sample (negsuc n)) = Decimal true (suc n / 1000) (part_of (suc n))
form_for (Event c) = Decimal false c None
form_for (Condition l c) = State l c

-- and the value is back from it
part-is : (n : ℕ) → unwrap_or (part_of n) 0 ≡ n % 1000
part-is n = go (eqb (n % 1000) 0) refl
  where
    go : (t : Bool) → eqb (n % 1000) 0 ≡ t → unwrap_or (cond t None (Some (n % 1000))) 0 ≡ n % 1000
    go true e = sym (eqb-true (n % 1000) 0 e)
    go false e = refl

sample-back : (minus : Bool) (n : ℕ) → sample_for minus (n / 1000 * 1000 + unwrap_or (part_of n) 0) ≡ sample_for minus n
sample-back minus n = ap (sample_for minus) (let e = part-is n in omega (arith, e))

pub value-back : (category : ℕ) (v : Value) → Suits category v → Coded v → value_for category (form_for v) ≡ v
unfolding value_for
value-back category Unavailable s h = refl
value-back category (Sample (pos n)) s h = rw (s, sample-back false n, lt-ltb n (2 ^ 31) h)
value-back category (Sample (negsuc n)) s h = rw (s, sample-back true (suc n), lt-ltb n (2 ^ 31) h)
value-back category (Event c) s h = rw (s, lt-ltb c (2 ^ 32) h)
value-back category (Condition l c) s h = rw (lt-ltb c (2 ^ 24) h)

-- whatever the form, the value's type holds it
sample-fits : (minus : Bool) (n : ℕ) → Fits (sample_for minus n)
sample-fits false n = by_cond Fits (ltb n (2 ^ 31)) (Sample (pos n)) no_value (ltb-true n (2 ^ 31)) (λ e. no-value-fits)
sample-fits true zero = omega arith
sample-fits true (suc n) =
    by_cond Fits (ltb n (2 ^ 31)) (Sample (negsuc n)) no_value (ltb-true n (2 ^ 31)) (λ e. no-value-fits)

event-fits : (minus point : Bool) (n : ℕ) → Fits (event_for minus point n)
event-fits minus point n =
    by_cond Fits (not minus && (not point && ltb n (2 ^ 32))) (Event n) no_value
    (λ e. ltb-true n (2 ^ 32) (and_right (not point) _ (and_right (not minus) _ e)))
    (λ e. no-value-fits)

pub value-fits : (category : ℕ) (f : Form) → Fits (value_for category f)
unfolding value_for
value-fits category Missing = tt
value-fits category (Decimal minus whole part) =
    by_cond Fits (eqb category 0) (sample_for minus (whole * 1000 + unwrap_or part 0))
    (event_for minus (is_some part) whole)
    (λ e. sample-fits minus (whole * 1000 + unwrap_or part 0))
    (λ e. event-fits minus (is_some part) whole)
value-fits category (State level code) =
    by_cond Fits (ltb code (2 ^ 24)) (Condition level code) no_value
    (λ e. (let l = ltb-true code (2 ^ 24) e in omega arith))
    (λ e. no-value-fits)

-- ---- numbers

numeral-of : (n : ℕ) → n < 10 ^ 10 → Spells 9 n (decimal n)
numeral-of n h = decimal-spells 9 n (omega arith) h

is-numeral : (n : ℕ) → n < 10 ^ 10 → numeral (decimal n) ≡ true
is-numeral n h = spelled 10 9999999999 (numeral-of n h) (omega arith) (omega arith)

-- what is no digit stands in no number
numeral-lacks : (b n : ℕ) → digit b ≡ false → n < 10 ^ 10 → Lacks b (decimal n)
numeral-lacks b n d h = digits-lack b (decimal n) d (numeral-of n h).classed

-- each of the thousandths 1 to 999, by a test
part-fraction : (n : ℕ) → 1 ≤ n → n < 1000 → fraction (part_text n) ≡ true
unfolding every fixed part_text is_number all digit value_from
part-fraction n h k = every-at (λ n. fraction (part_text n)) 999 1 n refl h (omega arith)

part-back : (n : ℕ) → 1 ≤ n → n < 1000 → thousandths (part_text n) ≡ n
unfolding every fixed part_text value_from
part-back n h k = eqb-true _ _ (every-at (λ n. eqb (thousandths (part_text n)) n) 999 1 n refl h (omega arith))

part-digits : (n : ℕ) → 1 ≤ n → n < 1000 → all digit (part_text n) ≡ true
unfolding every fixed part_text all digit
part-digits n h k = every-at (λ n. all digit (part_text n)) 999 1 n refl h (omega arith)

-- ---- decimals

-- behind the sign: the whole part, and the thousandths if there are any
module _ (minus : Bool) (n : ℕ) (h : n / 1000 < 10 ^ 10) where
  figures : by_point minus (split 46 (unsigned_text n)) ≡ Some (Decimal minus (n / 1000) (part_of n))
  unfolding by_point point_text digit
  figures = go (eqb (n % 1000) 0) refl
    where
      go : (t : Bool) → eqb (n % 1000) 0 ≡ t
          → by_point minus (split 46 (decimal (n / 1000) ++ cond t [] (46 ∷ part_text (n % 1000))))
          ≡ Some (Decimal minus (n / 1000) (cond t None (Some (n % 1000))))
      go true e =
          rw (
            append-nil (decimal (n / 1000)),
            split-last 46 (decimal (n / 1000)) (numeral-lacks 46 (n / 1000) refl h),
            is-numeral (n / 1000) h,
            (numeral-of (n / 1000) h).value,
          )
      go false e =
          let z = eqb-false (n % 1000) 0 e in
          let p : 1 ≤ n % 1000 = omega arith in
          let q : n % 1000 < 1000 = omega arith in
          rw (
            split-more 46 (decimal (n / 1000)) (part_text (n % 1000)) (numeral-lacks 46 (n / 1000) refl h),
            split-last 46 (part_text (n % 1000)) (digits-lack 46 _ refl (part-digits (n % 1000) p q)),
            is-numeral (n / 1000) h,
            part-fraction (n % 1000) p q,
            (numeral-of (n / 1000) h).value,
            part-back (n % 1000) p q,
          )

-- a text that begins with a digit has no sign
unsigned-first : (s t : List ℕ) → 1 ≤ length s → all digit s ≡ true
    → decimal_form (s ++ t) ≡ by_point false (split 46 (s ++ t))
unfolding decimal_form all digit
unsigned-first [] t l h = absurd (omega arith)
unsigned-first (x ∷ s) t l h =
    let d = ((and-eq-true_iff (digit x) (all digit s)).0 h).0 in
    rw (ne_eqb x 45 (λ e. true≢false (sym d ∙ ap digit e)))

-- a class of digits, '.' and '-' holds a sample's text
module _ (p : ℕ → Bool) (d : (x : ℕ) → digit x ≡ true → p x ≡ true)
    (point : p 46 ≡ true) (dash : p 45 ≡ true) where
  point-class : (n : ℕ) → n < 1000 → all p (point_text n) ≡ true
  unfolding point_text all
  point-class n h = go (eqb n 0) refl
    where
      go : (t : Bool) → eqb n 0 ≡ t → all p (cond t [] (46 ∷ part_text n)) ≡ true
      go true e = refl
      go false e =
          let z = eqb-false n 0 e in
          rw point (all-imp {p = digit} d (part_text n) (part-digits n (omega arith) h))

  decimal-class : (n : ℕ) → n < 10 ^ 10 → all p (decimal n) ≡ true
  decimal-class n h = all-imp {p = digit} d (decimal n) (numeral-of n h).classed

  unsigned-class : (n : ℕ) → n / 1000 < 10 ^ 10 → all p (unsigned_text n) ≡ true
  unsigned-class n h =
      rw (all_append p (decimal (n / 1000)) (point_text (n % 1000)), decimal-class (n / 1000) h)
      (point-class (n % 1000) (omega arith))

  sample-class : (x : ℤ) → FitsSample x → all p (sample_text x) ≡ true
  unfolding all
  sample-class (pos n) h = unsigned-class n (omega arith)
  sample-class (negsuc n) h = rw dash (unsigned-class (suc n) (omega arith))

-- a sample's text has no other byte
sample-lacks : (b : ℕ) (x : ℤ) → digit b ≡ false → not (eqb 46 b) ≡ true → not (eqb 45 b) ≡ true
    → FitsSample x → Lacks b (sample_text x)
sample-lacks b x n point dash h = sample-class (λ x. not (eqb x b)) (digit-other b n) point dash x h

-- ---- values

-- a text without ':' and 'U' is a decimal or nothing
number-form : (s : List ℕ) → Lacks 58 s → Lacks 85 s → form_of s ≡ decimal_form s
unfolding form_of by_colon all
number-form s h k =
    let other : s ≡ bytes "UNAVAILABLE" → ⊥ = λ e. true≢false (sym k ∙ ap (all (λ x. not
    (eqb x 85))) e) in
    rw (split-last 58 s h, same-ne s (bytes "UNAVAILABLE") other)

sample-form : (x : ℤ) → FitsSample x → decimal_form (sample_text x) ≡ Some (form_for (Sample x))
unfolding decimal_form
sample-form (pos n) h =
    let l : n / 1000 < 10 ^ 10 = omega arith in
    let s = numeral-of (n / 1000) l in
    unsigned-first (decimal (n / 1000)) (point_text (n % 1000)) s.some-digit s.classed ∙ figures false n l
sample-form (negsuc n) h = figures true (suc n) (omega arith)

event-form : (c : ℕ) → c < 10 ^ 10 → decimal_form (decimal c) ≡ Some (Decimal false c None)
unfolding by_point digit
event-form c h =
    let s = numeral-of c h in
    ap decimal_form (sym (append-nil (decimal c)))
    ∙ unsigned-first (decimal c) [] s.some-digit s.classed
    ∙ rw (append-nil (decimal c), split-last 46 (decimal c) (numeral-lacks 46 c refl h), is-numeral c h, s.value)

level-lacks : (l : Level) → Lacks 58 (level_word l)
unfolding all
level-lacks Normal = refl
level-lacks Warning = refl
level-lacks Fault = refl

state-form : (l : Level) (c : ℕ) → state_form (level_word l) c ≡ Some (State l c)
unfolding state_form same
state-form Normal c = refl
state-form Warning c = refl
state-form Fault c = refl

-- a value's text reads to its form
pub text-form : (v : Value) → Coded v → form_of (value_text v) ≡ Some (form_for v)
unfolding value_text form_of by_colon split join_first same digit
text-form Unavailable h = refl
text-form (Sample x) h =
    number-form (sample_text x) (sample-lacks 58 x refl refl refl h) (sample-lacks 85 x refl refl refl h)
    ∙ sample-form x h
text-form (Event c) h =
    let l : c < 10 ^ 10 = omega arith in
    number-form (decimal c) (numeral-lacks 58 c refl l) (numeral-lacks 85 c refl l) ∙ event-form c l
text-form (Condition l c) h =
    let k : c < 10 ^ 10 = omega arith in
    rw (
      split-more 58 (level_word l) (decimal c) (level-lacks l),
      split-last 58 (decimal c) (numeral-lacks 58 c refl k),
      is-numeral c k,
      (numeral-of c k).value,
    ) (state-form l c)

-- and has no '|'
value-lacks : (v : Value) → Coded v → Lacks 124 (value_text v)
unfolding value_text all digit
value-lacks Unavailable h = refl
value-lacks (Sample x) h = sample-lacks 124 x refl refl refl h
value-lacks (Event c) h = numeral-lacks 124 c refl (omega arith)
value-lacks (Condition Normal c) h = numeral-lacks 124 c refl (omega arith)
value-lacks (Condition Warning c) h = numeral-lacks 124 c refl (omega arith)
value-lacks (Condition Fault c) h = numeral-lacks 124 c refl (omega arith)

-- ---- lines

-- a stamp that isn't empty is tested and read as one
record Stamped (s : List ℕ) : Type 0 where
  shape : stamp_formed s ≡ formed stamp_form s
  real : stamp_real s ≡ real_date (date_in s)
  time : time_in s ≡ time_of (date_in s)

stamped : (s : List ℕ) → 1 ≤ length s → Stamped s
stamped [] h = absurd (omega arith)
stamped (x ∷ s) h = record { shape = refl; real = refl; time = refl }

record PartStamp (t : ℕ) (s : List ℕ) : Type 0 where
  lacks : Lacks 124 s
  shape : stamp_formed s ≡ true
  real : stamp_real s ≡ true
  time : time_in s ≡ t

part-stamp : (t : ℕ) → t ≤ max_time → PartStamp t (stamp_part t)
unfolding stamp_part all digit
part-stamp t h = go (eqb t 0) refl
  where
    go : (b : Bool) → eqb t 0 ≡ b → PartStamp t (cond b [] (date_text (date_of t)))
    go true e = record { lacks = refl; shape = refl; real = refl; time = sym (eqb-true t 0 e) }
    go false e =
        let d = date_of t in
        let r = date-real t h in
        let s = stamped (date_text d) (omega (arith, text-length d)) in
        let b = text-back d r in
        record {
          lacks = text-class (λ x. not (eqb x 124)) d (digit-other 124 refl) refl refl refl refl refl;
          shape = s.shape ∙ text-formed d;
          real = s.real ∙ ap real_date b ∙ r;
          time = s.time ∙ ap time_of b ∙ time-back t;
        }

-- the line of an item, time and value reads to them, the value by its form
pub line_reads : (item time : ℕ) (v : Value) → item < 10 ^ 10 → time ≤ max_time → Coded v
    → read_line (line_of item time v) ≡ reads time item (form_for v)
unfolding read_line line_of by_bar line_in digit
line_reads item time v hi ht hv =
    let s = part-stamp time ht in
    rw (
      split-more 124 (stamp_part time) (decimal item ++ 124 ∷ value_text v) s.lacks,
      split-more 124 (decimal item) (value_text v) (numeral-lacks 124 item refl hi),
      split-last 124 (value_text v) (value-lacks v hv),
      text-form v hv,
      s.shape,
      is-numeral item hi,
      s.real,
      s.time,
      (numeral-of item hi).value,
    )

-- 06.9: and the form is the value, for an item of the category
pub record LineBack (category item time : ℕ) (v : Value) (form : Form) : Type 0 where
  pub line : read_line (line_of item time v) ≡ reads time item form
  pub value : value_for category form ≡ v

-- what an item takes suits its category
taken-suits : (category : ℕ) (v : Value) → takes category v ≡ true → Suits category v
taken-suits category Unavailable h = tt
taken-suits category (Sample x) h = h
taken-suits category (Event c) h =
    ne_eqb category 0 (λ e. true≢false (sym h ∙ ap (λ (k : ℕ). takes k (Event c)) e))
taken-suits category (Condition l c) h = tt

pub line-back : (category item time : ℕ) (v : Value) → item < 10 ^ 10 → time ≤ max_time
    → takes category v ≡ true → Fits v
    → LineBack category item time v (form_for v)
line-back category item time v hi ht h f =
    let c = taken-coded category v h f in
    record { line = line_reads item time v hi ht c; value = value-back category v (taken-suits category v h) c }

same-line : {a b : Line} → ◌≡◌ {A = Result Line LineError} (Ok a) (Ok b) → a ≡ b
same-line e = cc

-- so two observations have two lines: from one line follow item and time, and of one category the value
pub lines-differ : (category category' item item' time time' : ℕ) (v v' : Value) → item < 10 ^ 10
    → item' < 10 ^ 10 → time ≤ max_time → time' ≤ max_time
    → takes category v ≡ true → takes category' v' ≡ true → Fits v → Fits v'
    → line_of item time v ≡ line_of item' time' v'
    → (item ≡ item') × (time ≡ time') × (category ≡ category' → v ≡ v')
lines-differ category category' item item' time time' v v' hi hi' ht ht' h h' f f' e =
    let a = line-back category item time v hi ht h f in
    let b = line-back category' item' time' v' hi' ht' h' f' in
    let l = same-line (sym a.line ∙ ap read_line e ∙ b.line) in
    let g = ap (λ (l : Line). l.form) l in (
      ap (λ (l : Line). l.item) l,
      ap (λ (l : Line). l.time) l,
      λ k. sym a.value ∙ ap (value_for category) g ∙ rw (← k) at b.value,
    )

-- ---- what any line that reads gives

-- a time up to the end of 2099 and an item of ten digits
pub record Bounded (time item : ℕ) : Type 0 where
  pub time-to : time ≤ max_time
  pub item-to : item < 10 ^ 10

stamp-max : (s : List ℕ) → stamp_real s ≡ true → time_in s ≤ max_time
stamp-max [] h = omega arith
stamp-max (x ∷ s) h = time-max (date_in (x ∷ s)) h

numeral-max : (s : List ℕ) → numeral s ≡ true → value_from 0 s < 10 ^ 10
unfolding is_number
numeral-max s h =
    let k = and_right (leb (length s) 10) _ (and_right (leb 1 (length s)) _ h) in
    let l = leb-true (value_from 0 s) 9999999999 (and_right (all digit s) _ k) in
    omega arith

module _ (time item : ℕ) (f : Form) where
  not-read : (x : LineError) → Err x ≡ reads time item f → Bounded time item
  not-read x e = absurd (cc)

  parts-bounded : (a b : List ℕ) (g : Option Form) → line_in a b g ≡ reads time item f → Bounded time item
  unfolding line_in
  parts-bounded a b None e = not-read Malformed e
  parts-bounded a b (Some g) e = go (stamp_formed a && numeral b) refl (stamp_real a) refl e
    where
      go : (t : Bool) → stamp_formed a && numeral b ≡ t → (r : Bool) → stamp_real a ≡ r
          → cond t (cond r (reads (time_in a) (value_from 0 b) g) (Err BadStamp)) (Err Malformed) ≡ reads time item f
          → Bounded time item
      go false p r q e = not-read Malformed e
      go true p false q e = not-read BadStamp e
      go true p true q e =
          let n = and_right (stamp_formed a) (numeral b) p in
          let l = same-line e in
          let x : time_in a ≡ time = ap (λ (l : Line). l.time) l in
          let y : value_from 0 b ≡ item = ap (λ (l : Line). l.item) l in
          record { time-to = omega (arith, stamp-max a q); item-to = omega (arith, numeral-max b n) }

  bars-bounded : (ps : List (List ℕ)) → by_bar ps ≡ reads time item f → Bounded time item
  unfolding by_bar
  bars-bounded [] e = not-read Malformed e
  bars-bounded (a ∷ []) e = not-read Malformed e
  bars-bounded (a ∷ b ∷ []) e = not-read Malformed e
  bars-bounded (a ∷ b ∷ c ∷ []) e = parts-bounded a b (form_of c) e
  bars-bounded (a ∷ b ∷ c ∷ d ∷ ps) e = not-read Malformed e

pub reads-bounded : (s : List ℕ) (time item : ℕ) (f : Form) → read_line s ≡ reads time item f
    → Bounded time item
unfolding read_line
reads-bounded s time item f e = bars-bounded time item f (split 124 s) e
