-- Pascal case byte by byte, and what begins it.
use Prim.Native.Nat.{ℕ, suc, ◌+◌, ◌-◌, ◌≤◌, ◌<◌}
use mathlib.Core.Path.{◌≡◌, refl, sym, ap, ◌∙◌}
use mathlib.Core.Bool.{Bool, true, false, cond}
use mathlib.Core.List.{List, [], ◌∷◌, ◌++◌, map, append_assoc, append-nil}
use native.Mathlib.Numerals.{add-one}
use native.Mathlib.Omega.{arith}
use borrow.Author.Tests.{le-leb, lt-leb, leb-true, ltb-true, ltb-false}
use lib.Dec.{leb, ltb, eqb}
use mir.Val.{bool_byte}
use lib.ListN.{length, get_or, drop, length-append}
use lib.Seq.{drop-cons}
use Rattle.spec.specs.Bytes.{digit, split, join_first}
use Rattle.spec.specs.Model.{name_bytes}
use Rattle.std.specs.Prelude.{Option, Some, None, MatchOption, find, not, ◌==◌}
use Rattle.std.proofs.lemmas.List.{drop_all, length_push}
use Rattle.streams.proofs.Short.{capital-length, element-length}
use Rattle.streams.specs.Streams.{upper, lower, capital, capitals, lettered, element_name}
use Rattle.element.specs.Pascal.{bare, cased, pascal}

-- ---- words byte by byte

-- the words, of which the first begins or has begun before
words : Bool → List (List ℕ) → List ℕ
words begins [] = []
words begins (w ∷ ws) = cond begins (capital w) (map lower w) ++ capitals ws

words-are : (ws : List (List ℕ)) → words true ws ≡ capitals ws
unfolding words capitals
words-are [] = refl
words-are (w ∷ ws) = refl

no-word : (t : Bool) (ws : List (List ℕ)) → words t ([] ∷ ws) ≡ capitals ws
unfolding words
no-word true ws = refl
no-word false ws = refl

join-words : (t : Bool) (x : ℕ) (ws : List (List ℕ)) → words t (join_first x ws) ≡ cased t x ∷ words false ws
unfolding words capitals join_first
join-words true x [] = refl
join-words true x (w ∷ ws) = refl
join-words false x [] = refl
join-words false x (w ∷ ws) = refl

pascal-words : (s : List ℕ) (t : Bool) → words t (split 95 s) ≡ pascal t s
unfolding words capitals split pascal
pascal-words [] t = no-word t []
pascal-words (x ∷ s) t = go (eqb x 95) (sym (words-are (split 95 s)) ∙ pascal-words s true) (pascal-words s false)
  where
    go : (u : Bool) → capitals (split 95 s) ≡ pascal true s → words false (split 95 s) ≡ pascal false s
        → words t (cond u ([] ∷ split 95 s) (join_first x (split 95 s)))
        ≡ cond u (pascal true s) (cased t x ∷ pascal false s)
    go true c l = no-word t (split 95 s) ∙ c
    go false c l = join-words t x (split 95 s) ∙ ap (◌∷◌ (cased t x)) l

pascal-is : (s : List ℕ) → capitals (split 95 s) ≡ pascal true s
pascal-is s = sym (words-are (split 95 s)) ∙ pascal-words s true

-- ---- 'T' before

digit-upper : (x : ℕ) → digit (upper x) ≡ digit x
unfolding digit
digit-upper x = go (ltb x 97) refl
  where
    high : 97 ≤ x → (t : Bool) → leb x 122 ≡ t → digit (upper x) ≡ digit x
    high h true e =
        let k = leb-true x 122 e in
        rw (
          le-leb 97 x h,
          e,
          lt-leb x 57 (omega arith),
          lt-leb (x - 32) 57 (omega arith),
          le-leb 48 x (omega arith),
          le-leb 48 (x - 32) (omega arith),
        )
    high h false e = rw (le-leb 97 x h, e)

    go : (t : Bool) → ltb x 97 ≡ t → digit (upper x) ≡ digit x
    go true e = rw (lt-leb 97 x (ltb-true x 97 e))
    go false e = high (ltb-false x 97 e) (leb x 122) refl

-- nothing is written of the bytes before the first sign
found-in : (s : List ℕ) {x : ℕ} → Some x ≡ find (λ x. not (x == 95)) s → bare (pascal true s) ≡ digit x
unfolding pascal
found-in [] e = cc
found-in (y ∷ s) {x} e = go (eqb y 95) (found-in s) e
  where
    go : (t : Bool) → (Some x ≡ find (λ x. not (x == 95)) s → bare (pascal true s) ≡ digit x)
        → Some x ≡ cond (not t) (Some y) (find (λ x. not (x == 95)) s)
        → bare (cond t (pascal true s) (upper y ∷ pascal false s)) ≡ digit x
    go true on e = on e
    go false on e = let z : x ≡ y = cc in rw z (digit-upper y)

none-in : (s : List ℕ) → None ≡ find (λ x. not (x == 95)) s → bare (pascal true s) ≡ true
unfolding pascal
none-in [] e = refl
none-in (y ∷ s) e = go (eqb y 95) (none-in s) e
  where
    go : (t : Bool) → (None ≡ find (λ x. not (x == 95)) s → bare (pascal true s) ≡ true)
        → None ≡ cond (not t) (Some y) (find (λ x. not (x == 95)) s)
        → bare (cond t (pascal true s) (upper y ∷ pascal false s)) ≡ true
    go true on e = on e
    go false on e = cc

-- what is said of the first sign, if there is one
pub bare_is : (s : List ℕ) {o : Option ℕ} {b : Bool} → o ≡ find (λ x. not (x == 95)) s
    → MatchOption o (b ≡ true) (λ x. b ≡ digit x) → b ≡ bare (pascal true s)
bare_is s {o = None} e m = m ∙ sym (none-in s e)
bare_is s {o = Some x} e m = m ∙ sym (found-in s e)

lettered-bare : (t : List ℕ) → lettered t ≡ cond (bare t) (84 ∷ t) t
lettered-bare [] = refl
lettered-bare (x ∷ t) = refl

-- ---- a name made byte by byte

-- i bytes of s are passed: what is left goes behind the name so far, and has room there
pub record Named (s : List ℕ) (i : ℕ) (begins : Bool) (name : List ℕ) : Type 0 where
  pub inside : i ≤ length s
  pub few : length name + (length s - i) ≤ suc name_bytes
  pub whole : element_name s ≡ name ++ pascal begins (drop i s)

module _ (s : List ℕ) (h : length s ≤ name_bytes) where
  pub unlettered : bare (pascal true s) ≡ false → Named s 0 true []
  unfolding element_name
  unlettered b =
      record {
        inside = omega arith;
        few = omega arith;
        whole = rw (pascal-is s, lettered-bare (pascal true s), b);
      }

  pub t-before : bare (pascal true s) ≡ true → Named s 0 true (84 ∷ [])
  unfolding element_name
  t-before b =
      record {
        inside = omega arith;
        few = omega arith;
        whole = rw (pascal-is s, lettered-bare (pascal true s), b);
      }

module _ {s : List ℕ} {i : ℕ} {begins : Bool} {name : List ℕ} (n : Named s i begins name) where
  module _ (h : i < length s) where
    pub named-parted : (get_or s i 0 == 95) ≡ true → Named s (i + 1) (get_or s i 0 == 95) name
    unfolding pascal
    named-parted e =
        record {
          inside = omega arith;
          few = omega (arith, n.few);
          whole = n.whole ∙ rw (drop-cons s i 0 h, e, add-one i);
        }

    pub named-more : (get_or s i 0 == 95) ≡ false → {x : ℕ} → x ≡ cased begins (get_or s i 0)
        → Named s (i + 1) (get_or s i 0 == 95) (name ++ x ∷ [])
    unfolding pascal
    named-more e {x} q =
        let c = cased begins (get_or s i 0) in
        let a = append_assoc name (c ∷ []) (pascal false (drop (suc i) s)) in
        record {
          inside = omega arith;
          few = omega (arith, n.few, length_push name x);
          whole = n.whole ∙ rw (drop-cons s i 0 h, e, add-one i, q, a);
        }

  pub named-all : length s ≤ i → name ≡ element_name s
  unfolding pascal
  named-all h = sym (n.whole ∙ rw (drop_all i s h, append-nil name))

-- ---- how many bytes a name has

-- n bytes are counted, and the words of `rest` are left; `few` is that nothing overflows
pub record Counted (s : List ℕ) (rest : List (List ℕ)) (n : ℕ) : Type 0 where
  pub few : length (element_name s) ≤ suc name_bytes
  pub whole : length (element_name s) ≡ n + length (capitals rest)

pub counted-none : (s : List ℕ) → length s ≤ name_bytes → {n : ℕ} → n ≡ bool_byte (bare (pascal true s))
    → Counted s (split 95 s) n
unfolding element_name
counted-none s h {n} e = go (bare (pascal true s)) refl
  where
    few : length (element_name s) ≤ suc name_bytes
    few = omega (arith, element-length s)

    go : (t : Bool) → bare (pascal true s) ≡ t → Counted s (split 95 s) n
    go true b =
        let k : n ≡ 1 = rw b at e in
        record {
          few = few;
          whole = rw (pascal-is s, lettered-bare (pascal true s), b, k) (omega arith);
        }
    go false b =
        let k : n ≡ 0 = rw b at e in
        record {
          few = few;
          whole = rw (pascal-is s, lettered-bare (pascal true s), b, k) (omega arith);
        }

module _ {s : List ℕ} {rest : List (List ℕ)} {n : ℕ} (r : Counted s rest n) where
  pub counted-next : {word : List ℕ} {more : List (List ℕ)} → rest ≡ word ∷ more
      → Counted s more (n + length word)
  unfolding capitals
  counted-next {word} {more} q =
      record {
        few = r.few;
        whole = r.whole ∙ rw (q, length-append (capital word) (capitals more), capital-length word) (omega arith);
      }

  pub counted-all : rest ≡ [] → n ≡ length (element_name s)
  unfolding capitals
  counted-all q = sym (r.whole ∙ rw q (omega arith))
