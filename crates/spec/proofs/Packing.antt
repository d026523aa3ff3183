-- Values and their words: the bounds of a word, each value back from its word, so that packing is one-to-one.
use Prim.Native.Nat.{ℕ, zero, suc, ◌+◌, ◌-◌, ◌*◌, ◌/◌, ◌%◌, ◌^◌, ◌≤◌, ◌<◌}
use mathlib.Core.Path.{◌≡◌, refl, sym, ap, ◌∙◌}
use mathlib.Core.Bool.{Bool, true, false, and-false, and-eq-true_iff, true≢false}
use native.Mathlib.Nat.{div-add-mod', mod-lt}
use native.Mathlib.Omega.{arith}
use lib.Arith.{digits_div, digits_mod}
use lib.Dec.{leb, ltb, eqb, lit<}
use lib.IntN.{ℤ, pos, negsuc}
use borrow.Author.Tests.{lt-ltb, le-ltb, le-leb, ltb-true, ltb-false, leb-true, eqb-true}
use Rattle.spec.specs.Value.{level_number, low_word, kind, low, value_word, pack, item_of, native_ok, takes, sample_of, level_of, no_value, decode_kind, decode, FitsSample, Fits}
use Rattle.spec.specs.declared.Level.{Level}
use Rattle.spec.specs.declared.Level.TheVariants.{Normal, Warning, Fault}
use Rattle.spec.specs.declared.Value.{Value}
use Rattle.spec.specs.declared.Value.TheVariants.{Unavailable, Sample, Event, Condition}
use Rattle.spec.proofs.Words.{by_cond}

-- a value whose fields fit its word: as `Fits`, with a native code below 2^24
abbrev pub Coded : Value → Type 0
Coded Unavailable = Unit {0}
Coded (Sample x) = FitsSample x
Coded (Event c) = c < 2 ^ 32
Coded (Condition l c) = c < 2 ^ 24

-- what an item takes is coded
pub taken-coded : (category : ℕ) (v : Value) → takes category v ≡ true → Fits v → Coded v
taken-coded category Unavailable h f = tt
taken-coded category (Sample x) h f = f
taken-coded category (Event c) h f = f
taken-coded category (Condition l c) h f = ltb-true c (2 ^ 24) ((and-eq-true_iff (eqb category 2) (native_ok c)).0 h).1

-- ---- bounds

pub low-lt : (v : Value) → Coded v → low v < 2 ^ 32
low-lt Unavailable h = omega arith
low-lt (Sample (pos n)) h = omega arith
low-lt (Sample (negsuc n)) h = omega arith
low-lt (Event c) h = h
low-lt (Condition Normal c) h = omega arith
low-lt (Condition Warning c) h = omega arith
low-lt (Condition Fault c) h = omega arith

pub kind-le : (v : Value) → kind v ≤ 3
kind-le Unavailable = omega arith
kind-le (Sample x) = omega arith
kind-le (Event c) = omega arith
kind-le (Condition l c) = omega arith

pub word_lt : (v : Value) → Coded v → value_word v < 2 ^ 34
word_lt v h = omega (arith, low-lt v h, kind-le v)

-- ---- back from the word

level-back : (l : Level) → level_of (level_number l) ≡ l
level-back Normal = refl
level-back Warning = refl
level-back Fault = refl

level-le : (l : Level) → level_number l ≤ 2
level-le Normal = omega arith
level-le Warning = omega arith
level-le Fault = omega arith

sample-back : (x : ℤ) → FitsSample x → sample_of (low_word x) ≡ x
sample-back (pos n) h = rw (lt-ltb n (2 ^ 31) h)
sample-back (negsuc n) h =
    let e : 2 ^ 32 - 1 - (2 ^ 32 - suc n) ≡ n = omega arith in
    rw (le-ltb (2 ^ 32 - suc n) (2 ^ 31) (omega arith), e)

kind-back : (v : Value) → Coded v → decode_kind (kind v) (low v) ≡ v
kind-back Unavailable h = refl
kind-back (Sample x) h = ap Sample (sample-back x h)
kind-back (Event c) h = refl
kind-back (Condition l c) h =
    rw (digits_div (level_number l) h, digits_mod (level_number l) h, le-leb (level_number l) 2 (level-le l), level-back l)

-- a value is its word decoded
pub decode-coded : (v : Value) → Coded v → decode (value_word v) ≡ v
unfolding decode
decode-coded v h = rw (digits_div (kind v) (low-lt v h), digits_mod (kind v) (low-lt v h)) (kind-back v h)

pub decode-back : (category : ℕ) (v : Value) → takes category v ≡ true → Fits v → decode (value_word v) ≡ v
decode-back category v h f = decode-coded v (taken-coded category v h f)

-- an item is in its packed word
pub item-coded : (item : ℕ) (v : Value) → Coded v → item_of (pack item v) ≡ item
item-coded item v h = digits_div item {m = 2 ^ 40} (omega (arith, word_lt v h))

pub item_back : (item category : ℕ) (v : Value) → takes category v ≡ true → Fits v → item_of (pack item v) ≡ item
item_back item category v h f = item-coded item v (taken-coded category v h f)

-- ---- one word, one value

pub word-one-to-one : (v w : Value) → Coded v → Coded w → value_word v ≡ value_word w → v ≡ w
word-one-to-one v w hv hw e = sym (decode-coded v hv) ∙ ap decode e ∙ decode-coded w hw

pub pack-coded : (item : ℕ) (v w : Value) → Coded v → Coded w → pack item v ≡ pack item w → v ≡ w
pack-coded item v w hv hw e = word-one-to-one v w hv hw (omega arith)

pub pack-one-to-one : (item category : ℕ) (v w : Value) → takes category v ≡ true → takes category w ≡ true → Fits v → Fits w
    → pack item v ≡ pack item w → v ≡ w
pack-one-to-one item category v w hv hw fv fw = pack-coded item v w (taken-coded category v hv fv) (taken-coded category w hw fw)

-- ---- the value of a word that no value has

pub no_value-refused : (category : ℕ) → takes category no_value ≡ false
no_value-refused category = and-false (eqb category 2)

level_number-back : (n : ℕ) → n ≤ 2 → level_number (level_of n) ≡ n
level_number-back zero h = refl
level_number-back (suc zero) h = refl
level_number-back (suc (suc n)) h = omega arith

low-back : (l : ℕ) (t : Bool) → ltb l (2 ^ 31) ≡ t → l < 2 ^ 32 → low_word (sample_of l) ≡ l
low-back l true e h = rw e
low-back l false e h = rw e (omega arith)

-- the word behind a decoded value, of each kind
KindBack : ℕ → ℕ → Type 0
KindBack k l = (category : ℕ) → takes category (decode_kind k l) ≡ true → value_word (decode_kind k l) ≡ k * 2 ^ 32 + l

none-taken : (category : ℕ) {x y : ℕ} → takes category no_value ≡ true → x ≡ y
none-taken category h = absurd (true≢false (sym h ∙ no_value-refused category))

unavailable-word : (l : ℕ) (t : Bool) → eqb l 0 ≡ t → KindBack 0 l
unfolding KindBack
unavailable-word l true e category h = rw e (omega (arith, eqb-true l 0 e))
unavailable-word l false e category h = rw e (none-taken category (rw e at h))

condition-word : (l : ℕ) (t : Bool) → leb (l / 2 ^ 24) 2 ≡ t → KindBack 3 l
unfolding KindBack
condition-word l true e category h =
    let n = level_number-back (l / 2 ^ 24) (leb-true _ _ e) in
    let d = div-add-mod' l (2 ^ 24) in
    rw (e, n) (omega arith)
condition-word l false e category h = rw e (none-taken category (rw e at h))

kind-word : (k l : ℕ) → l < 2 ^ 32 → KindBack k l
unfolding KindBack
kind-word zero l b category h = unavailable-word l (eqb l 0) refl category h
kind-word (suc zero) l b category h = rw (low-back l (ltb l (2 ^ 31)) refl b)
kind-word (suc (suc zero)) l b category h = refl
kind-word (suc (suc (suc zero))) l b category h = condition-word l (leb (l / 2 ^ 24) 2) refl category h
kind-word (suc (suc (suc (suc k)))) l b category h = none-taken category h

-- a word that decodes to a value that an item takes is that value's word
pub word_back : (category word : ℕ) → takes category (decode word) ≡ true → value_word (decode word) ≡ word
unfolding decode KindBack
word_back category word h =
    kind-word (word / 2 ^ 32) (word % 2 ^ 32) (mod-lt word (lit< tt)) category h ∙ div-add-mod' word (2 ^ 32)

-- ---- a decoded word fits its type, whatever the word

sample-fits : (l : ℕ) (t : Bool) → ltb l (2 ^ 31) ≡ t → FitsSample (sample_of l)
sample-fits l true e = rw e (ltb-true l (2 ^ 31) e)
sample-fits l false e = rw e (omega (arith, ltb-false l (2 ^ 31) e))

in-u32 : {c : ℕ} → c < 2 ^ 24 → c < 2 ^ 32
in-u32 h = omega arith

pub no-value-fits : Fits no_value
no-value-fits = lit< tt

kind_fits : (k l : ℕ) → l < 2 ^ 32 → Fits (decode_kind k l)
kind_fits zero l b = by_cond Fits (eqb l 0) Unavailable no_value (λ e. tt) (λ e. no-value-fits)
kind_fits (suc zero) l b = sample-fits l (ltb l (2 ^ 31)) refl
kind_fits (suc (suc zero)) l b = b
kind_fits (suc (suc (suc zero))) l b =
    by_cond Fits (leb (l / 2 ^ 24) 2) (Condition (level_of (l / 2 ^ 24)) (l % 2 ^ 24)) no_value
    (λ e. in-u32 (mod-lt l (lit< tt)))
    (λ e. no-value-fits)
kind_fits (suc (suc (suc (suc k)))) l b = no-value-fits

pub decode-fits : (word : ℕ) → Fits (decode word)
unfolding decode
decode-fits word = kind_fits (word / 2 ^ 32) (word % 2 ^ 32) (mod-lt word (lit< tt))
