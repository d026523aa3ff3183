-- The writer's line is the shortest that reads so, and the only one of its length: no needless zero, point or stamp.
use Prim.Native.Nat.{ℕ, zero, suc, ◌+◌, ◌-◌, ◌*◌, ◌/◌, ◌%◌, ◌^◌, ◌≤◌, ◌<◌}
use mathlib.Core.Path.{◌≡◌, refl, sym, ap, ap₂, subst, ◌∙◌}
use mathlib.Core.Bool.{Bool, true, false, ◌&&◌, true≢false}
use mathlib.Core.List.{List, [], ◌∷◌, ◌++◌, append-nil, append_assoc}
use native.Mathlib.Nat.{add-zero, zero-add, mul-one, le_of_suc-le-suc}
use native.Mathlib.Omega.{arith}
use Rattle.std.specs.Prelude.{Option, Some, None, Result, Ok, Err, is_some, unwrap_or}
use Rattle.std.specs.List.{join_with_byte as join}
use lib.Arith.{digits_div, digits_mod}
use lib.Dec.{leb, ltb, eqb}
use lib.ListN.{length, take, drop, replicate, length-append, take-append-drop}
use lib.Seq.{drop-drop}
use borrow.Author.Tests.{eqb-true, eqb-false, ltb-false, leb-true}
use Rattle.spec.specs.Bytes.{bytes, all, same, split, digit, value_from, digits, decimal, is_number}
use Rattle.spec.specs.Value.{native_ok, takes, no_value}
use Rattle.lines.specs.Digits.{fixed}
use Rattle.lines.specs.Stamps.{formed, stamp_form, field, date_in, date_text}
use Rattle.lines.specs.Lines.{numeral, fraction, thousandths, by_point, decimal_form, level_word, state_form}
use Rattle.lines.specs.Lines.{plain_form, by_colon, form_of, line_in, by_bar, read_line, reads, stamp_formed}
use Rattle.lines.specs.Lines.{stamp_real, time_in, sample_for, event_for, value_for, value_read, part_text, point_text}
use Rattle.lines.specs.Lines.{unsigned_text, value_text, stamp_part, line_of}
use Rattle.spec.specs.declared.Level.{Level}
use Rattle.spec.specs.declared.Level.TheVariants.{Normal, Warning, Fault}
use Rattle.spec.specs.declared.Value.{Value}
use Rattle.lines.specs.declared.Form.{Form}
use Rattle.lines.specs.declared.Form.TheVariants.{Decimal, State}
use Rattle.lines.specs.declared.Line.{Line}
use Rattle.lines.specs.declared.LineError.{LineError}
use Rattle.spec.proofs.Words.{and_left, and_right, by_cond}
use Rattle.spec.proofs.Bytes.{join-split, same_true}
use Rattle.spec.proofs.Digits.{Spells, tenth, spelled-lt}
use Rattle.lines.proofs.Digits.{fixed-length}
use Rattle.lines.proofs.Stamps.{date-back}

-- ---- no longer

-- t has no more bytes than s, and is s where s has no more
record NoLonger (t s : List ℕ) : Type 0 where
  short : length t ≤ length s
  only : length s ≤ length t → s ≡ t

equal : {t s : List ℕ} → s ≡ t → NoLonger t s
equal e = record { short = rw e (omega arith); only = λ h. e }

none : (s : List ℕ) → NoLonger [] s
none [] = equal refl
none (x ∷ s) = record { short = omega arith; only = λ h. absurd (omega arith) }

fewer : {t s : List ℕ} → length t < length s → NoLonger t s
fewer h = record { short = omega arith; only = λ k. absurd (omega arith) }

behind : {t s : List ℕ} (x : ℕ) → NoLonger t s → NoLonger (x ∷ t) (x ∷ s)
behind x h = record { short = omega (arith, h.short); only = λ k. ap (◌∷◌ x) (h.only (omega arith)) }

-- a byte more in front
longer : {t s : List ℕ} (x : ℕ) → NoLonger t s → NoLonger t (x ∷ s)
longer x h = fewer (omega (arith, h.short))

joined : {t s t' s' : List ℕ} → NoLonger t s → NoLonger t' s' → NoLonger (t ++ t') (s ++ s')
joined {t} {s} {t'} {s'} h k =
    let a = length-append t t' in
    let b = length-append s s' in
    record {
      short = omega (arith, h.short, k.short);
      only = λ l. ap₂ ◌++◌ (h.only (omega (arith, k.short))) (k.only (omega (arith, h.short)));
    }

-- ---- digits

digit_low : (x : ℕ) → digit x ≡ true → 48 ≤ x
unfolding digit
digit_low x h = leb-true 48 x (and_left (leb 48 x) (leb x 57) h)

digit-high : (x : ℕ) → digit x ≡ true → x ≤ 57
unfolding digit
digit-high x h = leb-true x 57 (and_right (leb 48 x) (leb x 57) h)

-- digits behind the j of m
fixed-behind : (s : List ℕ) (j m : ℕ) → all digit s ≡ true → fixed (j + length s) (value_from m s) ≡ fixed j m ++ s
unfolding all value_from fixed
fixed-behind [] j m h = rw (add-zero j, append-nil (fixed j m))
fixed-behind (x ∷ s) j m h =
    let d = and_left (digit x) (all digit s) h in
    let l = digit_low x d in
    let u = digit-high x d in
    let q : (m * 10 + (x - 48)) / 10 ≡ m = omega arith in
    let r : 48 + (m * 10 + (x - 48)) % 10 ≡ x = omega arith in
    let ih = fixed-behind s (suc j) (m * 10 + (x - 48)) (and_right (digit x) (all digit s) h) in
    let e : j + suc (length s) ≡ suc j + length s = omega arith in
    ap (λ (k : ℕ). fixed k (value_from (m * 10 + (x - 48)) s)) e
    ∙ ih
    ∙ rw (q, r, append_assoc (fixed j m) (x ∷ []) s)

-- as many digits as s has
fixed_back : (s : List ℕ) → all digit s ≡ true → fixed (length s) (value_from 0 s) ≡ s
unfolding fixed
fixed_back s h = ap (λ (k : ℕ). fixed k (value_from 0 s)) (sym (zero-add (length s))) ∙ fixed-behind s 0 0 h

-- no zeros in front
digits-short : (k j n : ℕ) → j ≤ k → n < 10 ^ suc j → NoLonger (digits k n) (fixed (suc j) n)
unfolding digits fixed
digits-short zero zero n l h = equal refl
digits-short zero (suc j) n l h = absurd (omega arith)
digits-short (suc k) zero n l h =
    by_cond (λ t. NoLonger t (fixed 1 n)) (ltb n 10) _ _
    (λ e. equal refl)
    (λ e. absurd (omega (arith, ltb-false n 10 e)))
digits-short (suc k) (suc j) n l h =
    by_cond (λ t. NoLonger t (fixed (suc (suc j)) n)) (ltb n 10) _ _
    (λ e. joined (none (fixed (suc j) (n / 10))) (equal refl))
    (λ e. joined (digits-short k j (n / 10) (le_of_suc-le-suc l) (tenth (suc j) n h)) (equal refl))

-- ---- numbers

spells : (j bound : ℕ) (s : List ℕ) → is_number (suc j) bound s ≡ true → Spells j (value_from 0 s) s
unfolding is_number
spells j bound s h =
    let a = and_right (leb 1 (length s)) _ h in
    record {
      some-digit = leb-true _ _ (and_left (leb 1 (length s)) _ h);
      few = leb-true _ _ (and_left (leb (length s) (suc j)) _ a);
      classed = and_left (all digit s) _ (and_right (leb (length s) (suc j)) _ a);
      value = refl;
    }

numeral-short : (s : List ℕ) → numeral s ≡ true → NoLonger (decimal (value_from 0 s)) s
numeral-short s h = go s (spells 9 9999999999 s h)
  where
    go : (s : List ℕ) → Spells 9 (value_from 0 s) s → NoLonger (decimal (value_from 0 s)) s
    go [] n = absurd (omega (arith, n.some-digit))
    go (x ∷ s) n =
        rw (fixed_back (x ∷ s) n.classed) at
        (digits-short 19 (length s) (value_from 0 (x ∷ s)) (omega (arith, n.few)) (spelled-lt (x ∷ s) n.classed))

-- ---- thousandths

-- one, two and three digits behind the point
part-one : (v : ℕ) (p : List ℕ) → fixed 1 v ≡ p → NoLonger (part_text (v * 100)) p
unfolding part_text
part-one v p e =
    by_cond (λ t. NoLonger t p) (eqb (v * 100 % 100) 0) _ _
    (λ z. equal (sym (ap (fixed 1) (let q : v * 100 / 100 ≡ v = omega arith in q) ∙ e)))
    (λ z. absurd (eqb-false (v * 100 % 100) 0 z (omega arith)))

part-two : (v : ℕ) (p : List ℕ) → fixed 2 v ≡ p → NoLonger (part_text (v * 10)) p
unfolding part_text
part-two v p e =
    let l : 2 ≡ length p = sym (fixed-length 2 v) ∙ ap length e in
    by_cond (λ t. NoLonger t p) (eqb (v * 10 % 100) 0) _ _
    (λ z. fewer (omega (arith, fixed-length 1 (v * 10 / 100))))
    (λ z.
    by_cond (λ t. NoLonger t p) (eqb (v * 10 % 10) 0) _ _
    (λ y. equal (sym (ap (fixed 2) (let q : v * 10 / 10 ≡ v = omega arith in q) ∙ e)))
    (λ y. absurd (eqb-false (v * 10 % 10) 0 y (omega arith))))

part-three : (v : ℕ) (p : List ℕ) → fixed 3 v ≡ p → NoLonger (part_text v) p
unfolding part_text
part-three v p e =
    let l : 3 ≡ length p = sym (fixed-length 3 v) ∙ ap length e in
    by_cond (λ t. NoLonger t p) (eqb (v % 100) 0) _ _
    (λ z. fewer (omega (arith, fixed-length 1 (v / 100))))
    (λ z.
    by_cond (λ t. NoLonger t p) (eqb (v % 10) 0) _ _
    (λ y. fewer (omega (arith, fixed-length 2 (v / 10))))
    (λ y. equal (sym e)))

-- no zeros at the end
record Part (p : List ℕ) : Type 0 where
  small : thousandths p < 1000
  short : NoLonger (part_text (thousandths p)) p

part : (p : List ℕ) → fraction p ≡ true → Part p
part p h = go p (spells 2 999 p h)
  where
    go : (p : List ℕ) → Spells 2 (value_from 0 p) p → Part p
    go [] n = absurd (omega (arith, n.some-digit))
    go (a ∷ []) n =
        record {
          small = omega (arith, spelled-lt (a ∷ []) n.classed);
          short = part-one (value_from 0 (a ∷ [])) (a ∷ []) (fixed_back (a ∷ []) n.classed);
        }
    go (a ∷ b ∷ []) n =
        record {
          small = omega (arith, spelled-lt (a ∷ b ∷ []) n.classed);
          short = part-two (value_from 0 (a ∷ b ∷ [])) (a ∷ b ∷ []) (fixed_back (a ∷ b ∷ []) n.classed);
        }
    go (a ∷ b ∷ c ∷ []) n =
        let p = a ∷ b ∷ c ∷ [] in
        record {
          small = omega (arith, spelled-lt p n.classed);
          short = rw (mul-one (value_from 0 p)) (part-three (value_from 0 p) p (fixed_back p n.classed));
        }
    go (a ∷ b ∷ c ∷ d ∷ p) n = absurd (omega (arith, n.few))

point-short : (p : List ℕ) → Part p → NoLonger (point_text (thousandths p)) (46 ∷ p)
unfolding point_text
point-short p h =
    by_cond (λ t. NoLonger t (46 ∷ p)) (eqb (thousandths p) 0) _ _
    (λ e. none (46 ∷ p))
    (λ e. behind 46 h.short)

-- a whole part, and thousandths behind a point
unsigned-short : (w t : ℕ) {s r : List ℕ} → t < 1000 → NoLonger (decimal w) s → NoLonger (point_text t) r
    → NoLonger (unsigned_text (w * 1000 + t)) (s ++ r)
unsigned-short w t l h k = rw (digits_div w l, digits_mod w l) (joined h k)

-- ---- values

-- what the category takes is written no longer than s
abbrev ValueShort : ℕ → List ℕ → Value → Type 0
ValueShort category s v = takes category v ≡ true → NoLonger (value_text v) s

abbrev FormShort : ℕ → List ℕ → Option Form → Type 0
FormShort category s f = ValueShort category s (value_read category f)

abbrev signed : Bool → List ℕ → List ℕ
signed true s = 45 ∷ s
signed false s = s

module _ (category : ℕ) where
  refused : {A : Type 0} → takes category no_value ≡ true → A
  refused h = absurd (true≢false (sym (and_right (eqb category 2) (native_ok (2 ^ 32 - 1)) h)))

  sample-short : (minus : Bool) (n : ℕ) (s : List ℕ) → NoLonger (unsigned_text n) s
      → ValueShort category (signed minus s) (sample_for minus n)
  unfolding value_text
  sample-short false n s h = by_cond (ValueShort category s) (ltb n (2 ^ 31)) _ _ (λ e k. h) (λ e. refused)
  sample-short true zero s h = λ k. longer 45 h
  sample-short true (suc n) s h =
      by_cond (ValueShort category (45 ∷ s)) (ltb n (2 ^ 31)) _ _ (λ e k. behind 45 h) (λ e. refused)

  event-short : (minus point : Bool) (w : ℕ) (s : List ℕ) → (point ≡ false → NoLonger (decimal w) s)
      → ValueShort category (signed minus s) (event_for minus point w)
  unfolding value_text
  event-short true point w s h = refused
  event-short false true w s h = refused
  event-short false false w s h =
      by_cond (ValueShort category s) (ltb w (2 ^ 32)) _ _ (λ e k. h refl) (λ e. refused)

  decimal-short : (minus : Bool) (w : ℕ) (t : Option ℕ) (s : List ℕ)
      → NoLonger (unsigned_text (w * 1000 + unwrap_or t 0)) s
      → (is_some t ≡ false → NoLonger (decimal w) s)
      → FormShort category (signed minus s) (Some (Decimal minus w t))
  unfolding value_for
  decimal-short minus w t s h k =
      by_cond (ValueShort category (signed minus s)) (eqb category 0) _ _
      (λ e. sample-short minus (w * 1000 + unwrap_or t 0) s h)
      (λ e. event-short minus (is_some t) w s k)

  unread-short : (s : List ℕ) → FormShort category s None
  unread-short s = refused

  -- the parts between points
  points-short : (minus : Bool) (ps : List (List ℕ))
      → FormShort category (signed minus (join 46 ps)) (by_point minus ps)
  unfolding by_point point_text
  points-short minus [] = unread-short _
  points-short minus (w ∷ []) =
      by_cond (FormShort category (signed minus w)) (numeral w) _ _
      (λ e.
      let h = numeral-short w e in
      decimal-short minus (value_from 0 w) None w
      (rw append-nil at (unsigned-short (value_from 0 w) 0 (omega arith) h (none [])))
      (λ z. h))
      (λ e. unread-short _)
  points-short minus (w ∷ p ∷ []) =
      by_cond (FormShort category (signed minus (w ++ 46 ∷ p))) (numeral w && fraction p) _ _
      (λ e.
      let h = part p (and_right (numeral w) (fraction p) e) in
      decimal-short minus (value_from 0 w) (Some (thousandths p)) (w ++ 46 ∷ p)
      (unsigned-short (value_from 0 w) (thousandths p) h.small
      (numeral-short w (and_left (numeral w) (fraction p) e)) (point-short p h))
      (λ z. absurd (true≢false z)))
      (λ e. unread-short _)
  points-short minus (w ∷ p ∷ q ∷ ps) = unread-short _

  point-parts : (minus : Bool) (s : List ℕ) → FormShort category (signed minus s) (by_point minus (split 46 s))
  point-parts minus s =
      subst (λ (t : List ℕ). FormShort category (signed minus t) (by_point minus (split 46 s))) (join-split 46 s)
      (points-short minus (split 46 s))

  decimals-short : (s : List ℕ) → FormShort category s (decimal_form s)
  unfolding decimal_form
  decimals-short [] = unread-short []
  decimals-short (x ∷ s) =
      by_cond (FormShort category (x ∷ s)) (eqb x 45) _ _
      (λ e. rw (eqb-true x 45 e) (point-parts true s))
      (λ e. point-parts false (x ∷ s))

  plain-short : (s : List ℕ) → FormShort category s (plain_form s)
  unfolding value_for value_text
  plain-short s =
      by_cond (FormShort category s) (same s (bytes "UNAVAILABLE")) _ _
      (λ e k. equal (same_true s (bytes "UNAVAILABLE") e))
      (λ e. decimals-short s)

  -- a level's word, ':' and digits
  level-short : (l : Level) (w : List ℕ) {c : List ℕ} (n : ℕ) → same w (level_word l) ≡ true → NoLonger (decimal n) c
      → FormShort category (w ++ 58 ∷ c) (Some (State l n))
  unfolding value_for value_text
  level-short l w {c} n e h =
      by_cond (ValueShort category (w ++ 58 ∷ c)) (ltb n (2 ^ 24)) _ _
      (λ z k. joined (equal (same_true w (level_word l) e)) (behind 58 h))
      (λ z. refused)

  state-short : (w : List ℕ) {c : List ℕ} (n : ℕ) → NoLonger (decimal n) c
      → FormShort category (w ++ 58 ∷ c) (state_form w n)
  unfolding state_form
  state-short w {c} n h =
      let choose = by_cond (FormShort category (w ++ 58 ∷ c)) in
      choose (same w (level_word Normal)) _ _ (λ e. level-short Normal w n e h)
      (λ e. choose (same w (level_word Warning)) _ _ (λ e. level-short Warning w n e h)
      (λ e. choose (same w (level_word Fault)) _ _ (λ e. level-short Fault w n e h)
      (λ e. unread-short _)))

  -- the parts between colons
  colons-short : (ps : List (List ℕ)) → FormShort category (join 58 ps) (by_colon ps)
  unfolding by_colon
  colons-short [] = unread-short _
  colons-short (s ∷ []) = plain-short s
  colons-short (w ∷ c ∷ []) =
      by_cond (FormShort category (w ++ 58 ∷ c)) (numeral c) _ _
      (λ e. state-short w (value_from 0 c) (numeral-short c e))
      (λ e. unread-short _)
  colons-short (w ∷ c ∷ d ∷ ps) = unread-short _

  -- a value's bytes
  value-short : (s : List ℕ) → FormShort category s (form_of s)
  unfolding form_of
  value-short s =
      subst (λ (t : List ℕ). FormShort category t (by_colon (split 58 s))) (join-split 58 s)
      (colons-short (split 58 s))

-- ---- stamps

-- k digits of the form and a byte of its own
record Field (s fs : List ℕ) (at k b next : ℕ) : Type 0 where
  text : drop at s ≡ fixed k (field s at k) ++ b ∷ drop next s
  rest : formed fs (drop next s) ≡ true

mark-first : (b : ℕ) (fs s : List ℕ) → eqb b 100 ≡ false → formed (b ∷ fs) s ≡ true
    → (s ≡ b ∷ drop 1 s) × (formed fs (drop 1 s) ≡ true)
unfolding formed
mark-first b fs [] n h = absurd (true≢false (sym h))
mark-first b fs (x ∷ s) n h =
    let k : (eqb x b && formed fs s) ≡ true = rw n at h in
    (ap (λ (y : ℕ). y ∷ s) (eqb-true x b (and_left (eqb x b) (formed fs s) k)), and_right (eqb x b) (formed fs s) k)

-- the digits in front
record Front (s fs : List ℕ) (k : ℕ) : Type 0 where
  many : length (take k s) ≡ k
  classed : all digit (take k s) ≡ true
  rest : formed fs (drop k s) ≡ true

digits-first : (k : ℕ) (fs s : List ℕ) → formed (replicate k 100 ++ fs) s ≡ true → Front s fs k
unfolding formed all
digits-first zero fs s h = record { many = refl; classed = refl; rest = h }
digits-first (suc k) fs [] h = absurd (true≢false (sym h))
digits-first (suc k) fs (x ∷ s) h =
    let f = digits-first k fs s (and_right (digit x) _ h) in
    record {
      many = ap suc f.many;
      classed = rw (and_left (digit x) _ h) f.classed;
      rest = f.rest;
    }

field_at : (s fs : List ℕ) (at k b next : ℕ) → at + k + 1 ≡ next → eqb b 100 ≡ false
    → formed (replicate k 100 ++ b ∷ fs) (drop at s) ≡ true → Field s fs at k b next
field_at s fs at k b next e n h =
    let f = digits-first k (b ∷ fs) (drop at s) h in
    let m = mark-first b fs (drop k (drop at s)) n f.rest in
    let d : drop 1 (drop k (drop at s)) ≡ drop next s =
    ap (drop 1) (drop-drop k at s) ∙ drop-drop 1 (at + k) s ∙ ap (λ (i : ℕ). drop i s) e in
    let g : fixed k (field s at k) ≡ take k (drop at s) =
    rw f.many at (fixed_back (take k (drop at s)) f.classed) in
    record {
      text = sym (take-append-drop k (drop at s)) ∙ ap₂ ◌++◌ (sym g) (m.0 ∙ ap (◌∷◌ b) d);
      rest = subst (λ (t : List ℕ). formed fs t ≡ true) d m.1;
    }

formed-nil : (s : List ℕ) → formed [] s ≡ true → s ≡ []
unfolding formed
formed-nil [] h = refl
formed-nil (x ∷ s) h = absurd (true≢false (sym h))

-- what has the form of a stamp is the text of its date
text_of : (s : List ℕ) → formed stamp_form s ≡ true → date_text (date_in s) ≡ s
unfolding date_text date_in fixed
text_of s h =
    let y = field_at s (drop 5 stamp_form) 0 4 45 5 refl refl h in
    let m = field_at s (drop 8 stamp_form) 5 2 45 8 refl refl y.rest in
    let d = field_at s (drop 11 stamp_form) 8 2 84 11 refl refl m.rest in
    let o = field_at s (drop 14 stamp_form) 11 2 58 14 refl refl d.rest in
    let i = field_at s (drop 17 stamp_form) 14 2 58 17 refl refl o.rest in
    let c = field_at s (drop 20 stamp_form) 17 2 46 20 refl refl i.rest in
    let l = field_at s [] 20 3 90 24 refl refl c.rest in
    let z = formed-nil (drop 24 s) l.rest in
    cc

stamp-short : (s : List ℕ) → stamp_formed s ≡ true → stamp_real s ≡ true → NoLonger (stamp_part (time_in s)) s
unfolding stamp_part
stamp-short [] f r = equal refl
stamp-short (x ∷ s) f r =
    by_cond (λ t. NoLonger t (x ∷ s)) (eqb (time_in (x ∷ s)) 0) _ _
    (λ e. none (x ∷ s))
    (λ e. equal (sym (ap date_text (date-back (date_in (x ∷ s)) r) ∙ text_of (x ∷ s) f)))

-- ---- lines

abbrev LineShort : ℕ → List ℕ → Result Line LineError → Type 0
LineShort category s (Err e) = Unit {0}
LineShort category s (Ok l) =
    let v = value_for category l.form in takes category v ≡ true → NoLonger (line_of l.item l.time v) s

module _ (category : ℕ) where
  parts-short : (a b c : List ℕ) (f : Option Form) → FormShort category c f
      → LineShort category (a ++ 124 ∷ (b ++ 124 ∷ c)) (line_in a b f)
  unfolding line_in line_of
  parts-short a b c None h = tt
  parts-short a b c (Some f) h =
      let choose = by_cond (LineShort category (a ++ 124 ∷ (b ++ 124 ∷ c))) in
      choose (stamp_formed a && numeral b) _ _
      (λ e. choose (stamp_real a) _ _
      (λ r k. joined (stamp-short a (and_left (stamp_formed a) _ e) r)
      (behind 124 (joined (numeral-short b (and_right (stamp_formed a) _ e)) (behind 124 (h k)))))
      (λ r. tt))
      (λ e. tt)

  bars-short : (ps : List (List ℕ)) → LineShort category (join 124 ps) (by_bar ps)
  unfolding by_bar
  bars-short [] = tt
  bars-short (a ∷ []) = tt
  bars-short (a ∷ b ∷ []) = tt
  bars-short (a ∷ b ∷ c ∷ []) = parts-short a b c (form_of c) (value-short category c)
  bars-short (a ∷ b ∷ c ∷ d ∷ ps) = tt

  line-short : (s : List ℕ) → LineShort category s (read_line s)
  unfolding read_line
  line-short s =
      subst (λ (t : List ℕ). LineShort category t (by_bar (split 124 s))) (join-split 124 s)
      (bars-short (split 124 s))

-- s reads to a time, an item and a value that the category takes
module _ (category item time : ℕ) (v : Value) (s : List ℕ) (form : Form) (taken : takes category v ≡ true)
    (reads-to : read_line s ≡ reads time item form) (value : value_for category form ≡ v) where
  line-least : NoLonger (line_of item time v) s
  line-least =
      subst (λ (u : Value). takes category u ≡ true → NoLonger (line_of item time u) s) value
      (subst (LineShort category s) reads-to (line-short category s)) taken

  -- 06.8: the writer's line is no longer than s
  pub shortest : length (line_of item time v) ≤ length s
  shortest = line-least.short

  -- and s is the writer's line if it is no longer than that
  pub only_one : length s ≤ length (line_of item time v) → s ≡ line_of item time v
  only_one = line-least.only
