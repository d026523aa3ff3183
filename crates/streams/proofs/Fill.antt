-- Every text filled into a document (names, numbers, stamps, values) is of one class of bytes. None of these is a line
-- feed, ' ', '"', '&', '<' or '>', so nothing is escaped, and a line is cut where its own marks stand.
use Prim.Native.Nat.{ℕ, zero, suc, ◌/◌, ◌%◌, ◌<◌}
use mathlib.Core.Path.{◌≡◌, refl, sym, ap, ◌∙◌}
use mathlib.Core.Bool.{Bool, true, false, cond, ◌&&◌, ◌||◌, not, and-eq-true_iff, true≢false}
use mathlib.Core.List.{List, [], ◌∷◌, map}
use native.Mathlib.Omega.{arith}
use lib.Dec.{leb, ltb, eqb}
use lib.IntN.{ℤ, pos, negsuc}
use lib.ListN.{get_or, take}
use borrow.Author.Tests.{le-leb, lt-leb, ne_eqb, ltb-true, ltb-false}
use Rattle.spec.specs.Words.{every}
use Rattle.spec.specs.Bytes.{name_byte, digit, all, split, join_first, digits, decimal}
use Rattle.spec.specs.Model.{letters, name_text, name_cell}
use Rattle.spec.specs.declared.Level.{Level}
use Rattle.spec.specs.declared.Level.TheVariants.{Normal, Warning, Fault}
use Rattle.spec.specs.declared.Value.{Value}
use Rattle.spec.specs.declared.Value.TheVariants.{Unavailable, Sample, Event, Condition}
use Rattle.lines.specs.Digits.{fixed}
use Rattle.lines.specs.Stamps.{date_of, stamp_text}
use Rattle.lines.specs.Lines.{level_word, part_text, point_text, unsigned_text, sample_text, value_text}
use Rattle.spec.proofs.Words.{and_left, every-at, by_cond}
use Rattle.std.proofs.lemmas.Bool.{and_from}
use Rattle.spec.proofs.Bytes.{Lacks, AllOf, all_append, all-imp}
use Rattle.spec.proofs.Digits.{digit-is, all-last}
use Rattle.lines.proofs.Digits.{fixed-digits}
use Rattle.lines.proofs.Stamps.{text-class}
use Rattle.streams.specs.Streams.{upper, lower, capital, capitals, lettered, element_name}

-- ---- classes

-- a letter, a digit, '_', '-', '.' or ':'
unfoldable pub fill_byte : ℕ → Bool
fill_byte x = name_byte x || (eqb x 45 || (eqb x 46 || eqb x 58))

-- s is of these bytes
abbrev pub Fill : List ℕ → Type 0
Fill s = all fill_byte s ≡ true

-- what is of no class is another byte than those that are
pub other_byte : (p : ℕ → Bool) (b x : ℕ) → p b ≡ false → p x ≡ true → eqb x b ≡ false
other_byte p b x n h = ne_eqb x b (λ e. true≢false (sym h ∙ ap p e ∙ n))

pub class-lacks : (p : ℕ → Bool) (b : ℕ) → p b ≡ false → (s : List ℕ) → all p s ≡ true → Lacks b s
class-lacks p b n s h = all-imp {p = p} (λ x k. rw (other_byte p b x n k)) s h

pub lacks : (b : ℕ) → fill_byte b ≡ false → (s : List ℕ) → Fill s → Lacks b s
lacks = class-lacks fill_byte

name-fills : (x : ℕ) → name_byte x ≡ true → fill_byte x ≡ true
unfolding fill_byte
name-fills x h = rw h

digit-fills : (x : ℕ) → digit x ≡ true → fill_byte x ≡ true
unfolding fill_byte name_byte digit
digit-fills x h = rw h

-- ---- numbers

digits-fill : (s : List ℕ) → all digit s ≡ true → Fill s
digits-fill s h = all-imp {p = digit} digit-fills s h

-- whatever the number
digits-class : (k n : ℕ) → all digit (digits k n) ≡ true
unfolding digits all
digits-class zero n = rw (digit-is n)
digits-class (suc k) n =
    by_cond (λ (s : List ℕ). all digit s ≡ true) (ltb n 10) _ _
    (λ e. rw (digit-is n))
    (λ e. all-last (digits k (n / 10)) n (digits-class k (n / 10)))

pub decimal-fill : (n : ℕ) → Fill (decimal n)
decimal-fill n = digits-fill (decimal n) (digits-class 19 n)

fixed-fill : (k n : ℕ) → Fill (fixed k n)
fixed-fill k n = digits-fill (fixed k n) (fixed-digits k n)

-- ---- names

letters-class : (s : List ℕ) → all name_byte (take (letters s) s) ≡ true
unfolding letters all
letters-class [] = refl
letters-class (x ∷ s) = go (name_byte x) refl (letters-class s)
  where
    go : (t : Bool) → name_byte x ≡ t → all name_byte (take (letters s) s) ≡ true
        → all name_byte (take (cond t (suc (letters s)) 0) (x ∷ s)) ≡ true
    go true e ih = rw e ih
    go false e ih = refl

pub name-class : (names : List ℕ) (k : ℕ) → all name_byte (name_text names k) ≡ true
name-class names k = letters-class (name_cell names k)

pub name-fill : (names : List ℕ) (k : ℕ) → Fill (name_text names k)
name-fill names k = all-imp {p = name_byte} name-fills (name_text names k) (name-class names k)

-- ---- element names

name-lt : (x : ℕ) → name_byte x ≡ true → x < 123
unfolding name_byte
name-lt x h = go (ltb x 123) refl
  where
    go : (t : Bool) → ltb x 123 ≡ t → x < 123
    go true e = ltb-true x 123 e
    go false e =
        let l = ltb-false x 123 e in
        let k : name_byte x ≡ false =
        rw (
          le-leb 48 x (omega arith),
          lt-leb x 57 (omega arith),
          le-leb 65 x (omega arith),
          lt-leb x 90 (omega arith),
          ne_eqb x 95 (λ q. omega arith),
          le-leb 97 x (omega arith),
          lt-leb x 122 (omega arith),
        ) in
        absurd (true≢false (sym h ∙ k))

-- a letter or a digit
abbrev word_byte : ℕ → Bool
word_byte x = name_byte x && not (eqb x 95)

word_lt : (x : ℕ) → word_byte x ≡ true → x < 123
word_lt x h = name-lt x (and_left (name_byte x) _ h)

-- what a test of the 123 bytes that may be in a word says of each
module _ (p : ℕ → Bool) (test : every (λ x. not (word_byte x) || p x) 123 0 ≡ true) where
  tested : (x : ℕ) → word_byte x ≡ true → p x ≡ true
  tested x h = rw h at (every-at (λ x. not (word_byte x) || p x) 123 0 x test (omega arith) (word_lt x h))

upper-word : (x : ℕ) → word_byte x ≡ true → word_byte (upper x) ≡ true
unfolding every name_byte
upper-word = tested (λ x. word_byte (upper x)) refl

lower_word : (x : ℕ) → word_byte x ≡ true → word_byte (lower x) ≡ true
unfolding every name_byte
lower_word = tested (λ x. word_byte (lower x)) refl

lower-all : (s : List ℕ) → all word_byte s ≡ true → all word_byte (map lower s) ≡ true
unfolding all
lower-all [] h = refl
lower-all (x ∷ s) h =
    let t = (and-eq-true_iff (word_byte x) (all word_byte s)).0 h in
    and_from (word_byte (lower x)) _ (lower_word x t.0) (lower-all s t.1)

capital-all : (s : List ℕ) → all word_byte s ≡ true → all word_byte (capital s) ≡ true
unfolding all
capital-all [] h = refl
capital-all (x ∷ s) h =
    let t = (and-eq-true_iff (word_byte x) (all word_byte s)).0 h in
    and_from (word_byte (upper x)) _ (upper-word x t.0) (lower-all s t.1)

capitals-all : (ss : List (List ℕ)) → AllOf word_byte ss → all word_byte (capitals ss) ≡ true
unfolding capitals all
capitals-all [] h = refl
capitals-all (s ∷ ss) h =
    rw (all_append word_byte (capital s) (capitals ss), capital-all s h.0) (capitals-all ss h.1)

-- the words of a name: its bytes, but for '_'
first-class : (p : ℕ → Bool) (x : ℕ) (ss : List (List ℕ)) → p x ≡ true → AllOf p ss → AllOf p (join_first x ss)
unfolding join_first all
first-class p x [] e h = (rw e, tt)
first-class p x (s ∷ ss) e h = (rw e h.0, h.1)

words-class : (s : List ℕ) → all name_byte s ≡ true → AllOf word_byte (split 95 s)
unfolding split all
words-class [] h = (refl, tt)
words-class (x ∷ s) h =
    let t = (and-eq-true_iff (name_byte x) (all name_byte s)).0 h in
    let r = words-class s t.1 in
    by_cond (AllOf word_byte) (eqb x 95) _ _
    (λ e. (refl, r))
    (λ e. first-class word_byte x (split 95 s) (rw (t.0, e)) r)

lettered-all : (s : List ℕ) → all word_byte s ≡ true → all word_byte (lettered s) ≡ true
unfolding all name_byte
lettered-all [] h = refl
lettered-all (x ∷ s) h = by_cond (λ l. all word_byte l ≡ true) (digit x) _ _ (λ e. h) (λ e. h)

pub element-fill : (type : List ℕ) → all name_byte type ≡ true → Fill (element_name type)
unfolding element_name
element-fill type h =
    all-imp {p = word_byte} (λ x k. name-fills x (and_left (name_byte x) _ k)) (lettered (capitals (split 95 type)))
    (lettered-all (capitals (split 95 type)) (capitals-all (split 95 type) (words-class type h)))

-- and a letter begins it
unfoldable pub letter : ℕ → Bool
letter x = (leb 65 x && leb x 90) || (leb 97 x && leb x 122)

no_digit : (x : ℕ) → word_byte x ≡ true → (digit x || letter x) ≡ true
unfolding every name_byte digit letter
no_digit = tested (λ x. digit x || letter x) refl

lettered-letter : (s : List ℕ) → all word_byte s ≡ true → letter (get_or (lettered s) 0 0) ≡ true
unfolding letter all
lettered-letter [] k = refl
lettered-letter (x ∷ s) k =
    by_cond (λ (l : List ℕ). letter (get_or l 0 0) ≡ true) (digit x) _ _
    (λ e. refl)
    (λ e. rw e at (no_digit x (and_left (word_byte x) (all word_byte s) k)))

pub element-letter : (type : List ℕ) → all name_byte type ≡ true → letter (get_or (element_name type) 0 0) ≡ true
unfolding element_name
element-letter type h =
    lettered-letter (capitals (split 95 type)) (capitals-all (split 95 type) (words-class type h))

-- ---- stamps and values

pub stamp-fill : (t : ℕ) → Fill (stamp_text t)
unfolding fill_byte name_byte
stamp-fill t = text-class fill_byte (date_of t) digit-fills refl refl refl refl refl

part-fill : (p : ℕ) → Fill (part_text p)
unfolding part_text
part-fill p =
    by_cond Fill (eqb (p % 100) 0) _ _
    (λ e. fixed-fill 1 (p / 100))
    (λ e. by_cond Fill (eqb (p % 10) 0) _ _ (λ e. fixed-fill 2 (p / 10)) (λ e. fixed-fill 3 p))

point-fill : (p : ℕ) → Fill (point_text p)
unfolding point_text all fill_byte name_byte
point-fill p = by_cond Fill (eqb p 0) _ _ (λ e. refl) (λ e. part-fill p)

unsigned-fill : (n : ℕ) → Fill (unsigned_text n)
unsigned-fill n = rw (all_append, decimal-fill (n / 1000)) (point-fill (n % 1000))

sample-fill : (x : ℤ) → Fill (sample_text x)
unfolding all fill_byte name_byte
sample-fill (pos n) = unsigned-fill n
sample-fill (negsuc n) = unsigned-fill (suc n)

level-fill : (l : Level) → Fill (level_word l)
unfolding all fill_byte name_byte
level-fill Normal = refl
level-fill Warning = refl
level-fill Fault = refl

pub value-fill : (v : Value) → Fill (value_text v)
unfolding value_text all fill_byte name_byte
value-fill Unavailable = refl
value-fill (Sample x) = sample-fill x
value-fill (Event c) = decimal-fill c
value-fill (Condition l c) = rw (all_append, level-fill l) (decimal-fill c)
