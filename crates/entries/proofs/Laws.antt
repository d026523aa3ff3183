-- The written form of an item's rows, row by row: what may follow, and what is found of the rows left.
use Prim.Native.Nat.{ℕ, suc, ◌≤◌}
use mathlib.Core.Path.{◌≡◌, refl, sym, ap, ◌∙◌}
use mathlib.Core.Bool.{Bool, true, false, cond, ◌&&◌, ◌||◌, not, true≢false, and-false, and-true, not-not}
use mathlib.Core.Bool.{or-false, or_assoc, and_assoc}
use mathlib.Core.List.{List, [], ◌∷◌, ◌++◌, append-nil}
use native.Mathlib.Omega.{arith}
use lib.Dec.{leb, eqb, eqb-suc-zero}
use lib.ListN.{length, get_or, take, drop, length-append}
use lib.Seq.{append_snoc}
use borrow.Author.Tests.{eqb-true, eqb-false, eq-eqb, ne_eqb, le-leb, lt-leb, leb-false}
use Rattle.spec.specs.Entries.{active, active_as, code_field, packed, any_entry, each_row, has_code, zero_row, used_rows}
use Rattle.spec.specs.Entries.{codes_differ, form_ok}
use Rattle.spec.proofs.Words.{and_left, by-test}
use Rattle.spec.proofs.Text.{and-left-comm}
use Rattle.spec.proofs.Found.{cond-none}
use Rattle.marks.specs.Marks.{key_in, key_of}
use Rattle.marks.specs.Marked.{Marked}
use Rattle.marks.proofs.Keys.{key-active, key-idle, key-eqb}
use Rattle.entries.specs.Forms.{has_key, may_follow, FilledBy, filled}
use Rattle.std.specs.Prelude.{Option, Some, None}
use Rattle.std.proofs.lemmas.Option.{cond_some}

-- ---- one more entry

any_snoc : (p : ℕ → Bool) (es : List (List ℕ)) (r : List ℕ)
    → any_entry p (es ++ (r ∷ [])) ≡ any_entry p es || p (packed r)
unfolding any_entry
any_snoc p [] r = or-false (p (packed r))
any_snoc p (e ∷ es) r = rw (any_snoc p es r) (sym (or_assoc (p (packed e)) (any_entry p es) (p (packed r))))

eqb-sym : (a b : ℕ) → eqb a b ≡ eqb b a
eqb-sym a b =
    by-test (eqb a b)
    (λ e. e ∙ sym (eq-eqb b a (sym (eqb-true a b e))))
    (λ e. e ∙ sym (ne_eqb b a (λ q. eqb-false a b e (sym q))))

-- a and b: the first and the last are active; h and k: their codes are among the others, which differ (d); s: they are
-- the same
two-more : (a h d b s k : Bool)
    → a && (not (h || (b && s)) && (d && (b && not k))) ≡ (a && (not h && d)) && (b && not ((a && s) || k))
two-more false h d b s k = refl
two-more true true d b s k = refl
two-more true false d false s k = refl
two-more true false d true true k = sym (and-false d)
two-more true false d true false k = refl

-- another entry keeps the codes different where it is active with a code of its own
pub codes-snoc : (own : ℕ) (es : List (List ℕ)) (r : List ℕ)
    → codes_differ own (es ++ (r ∷ []))
    ≡ codes_differ own es && (active own (packed r) && not (has_code own (code_field (packed r)) es))
unfolding codes_differ any_entry
codes-snoc own [] r = refl
codes-snoc own (e ∷ es) r =
    let c : ℕ = code_field (packed e) in
    let d : ℕ = code_field (packed r) in
    rw (any_snoc (active_as own c) es r, codes-snoc own es r, eqb-sym d c)
    (two-more (active own (packed e)) (has_code own c es) (codes_differ own es) (active own (packed r)) (eqb c d)
    (has_code own d es))

-- ---- rows one by one

-- one entry, or all active with different codes
abbrev formed : ℕ → List (List ℕ) → Bool
formed own es = leb (length es) 1 || codes_differ own es

-- r may follow es: the first may be anything; behind one it is active with a code of its own, and so is the one
unfoldable pub follows : ℕ → List (List ℕ) → List ℕ → Bool
follows own [] r = true
follows own (e ∷ es) r =
    active own (packed r) && (active own (packed e) && not (has_code own (code_field (packed r)) (e ∷ es)))

-- what is found of rows behind the used ones es; more of them may follow where no unused one was passed
unfoldable pub fill_rest : ℕ → List (List ℕ) → Bool → List (List ℕ) → Option ℕ
fill_rest own es more [] = Some (length es)
fill_rest own es more (r ∷ rs) =
    cond (eqb (get_or r 0 0) 0)
    (cond (eqb (get_or r 1 0) 0 && eqb (packed r) 0) (fill_rest own es false rs) None)
    (cond (more && follows own es r) (fill_rest own (es ++ (r ∷ [])) true rs) None)

module _ (own : ℕ) where
  -- two or more
  formed-more : (es : List (List ℕ)) → 2 ≤ length es → formed own es ≡ codes_differ own es
  formed-more es h = rw (lt-leb (length es) 1 (omega arith))

  -- then the first tells of all
  first-differs : (e : List ℕ) (es : List (List ℕ)) → formed own (e ∷ es) ≡ true
      → codes_differ own (e ∷ es) ≡ active own (packed e)
  unfolding codes_differ any_entry
  first-differs e [] f = and-true (active own (packed e))
  first-differs e (g ∷ es) f =
      let d = sym (formed-more (e ∷ g ∷ es) (omega arith)) ∙ f in
      d ∙ sym (and_left (active own (packed e)) _ d)

  follows-formed : (es : List (List ℕ)) (r : List ℕ) → formed own es ≡ true
      → follows own es r ≡ formed own (es ++ (r ∷ []))
  unfolding follows
  follows-formed [] r f = refl
  follows-formed (e ∷ es) r f =
      let a : Bool = active own (packed r) in
      let n : Bool = not (has_code own (code_field (packed r)) (e ∷ es)) in
      and-left-comm a (active own (packed e)) n
      ∙ sym (formed-more (e ∷ es ++ (r ∷ [])) (omega (arith, length-append es (r ∷ [])))
      ∙ codes-snoc own (e ∷ es) r
      ∙ ap (λ (x : Bool). x && (a && n)) (first-differs e es f))

  differ-front : (es fs : List (List ℕ)) → codes_differ own (es ++ fs) ≡ true → codes_differ own es ≡ true
  differ-front es [] d = rw append-nil at d
  differ-front es (r ∷ fs) d =
      and_left (codes_differ own es) _
      (sym (codes-snoc own es r) ∙ differ-front (es ++ (r ∷ [])) fs (rw (append_snoc es r fs) d))

  formed-front : (es fs : List (List ℕ)) → formed own es ≡ false → formed own (es ++ fs) ≡ false
  formed-front es fs n =
      by-test (formed own (es ++ fs))
      (λ f.
      by-test (leb (length es) 1)
      (λ l. absurd (true≢false (rw l at n)))
      (λ l.
      let g : 2 ≤ length es = leb-false (length es) 1 l in
      let d = differ-front es fs (sym (formed-more (es ++ fs) (omega (arith, length-append es fs))) ∙ f) in
      absurd (true≢false (sym d ∙ sym (formed-more es g) ∙ n))))
      (λ f. f)

  -- no more may follow: zeros
  rest-shut : (es rs : List (List ℕ)) → fill_rest own es false rs ≡ cond (each_row zero_row rs) (Some (length es)) None
  unfolding fill_rest each_row
  rest-shut es [] = refl
  rest-shut es (r ∷ rs) =
      by-test (eqb (get_or r 0 0) 0)
      (λ e.
      by-test (eqb (get_or r 1 0) 0 && eqb (packed r) 0) (λ z. rw (e, z) (rest-shut es rs)) (λ z. rw (e, z)))
      (λ e. rw e)

  -- more may follow
  rest-open : (es rs : List (List ℕ)) → formed own es ≡ true
      → fill_rest own es true rs
      ≡ cond (each_row zero_row (drop (length (used_rows rs)) rs) && formed own (es ++ used_rows rs))
      (Some (length (es ++ used_rows rs)))
      None
  unfolding fill_rest each_row used_rows
  rest-open es [] f = rw (append-nil es, f)
  rest-open es (r ∷ rs) f =
      by-test (eqb (get_or r 0 0) 0)
      (λ e.
      by-test (eqb (get_or r 1 0) 0 && eqb (packed r) 0)
      (λ z. rw (e, z, append-nil es, f, e, and-true (each_row zero_row rs)) (rest-shut es rs))
      (λ z. rw (e, z, e)))
      (λ e.
      let s = follows-formed es r f in
      by-test (follows own es r)
      (λ g. rw (e, g, ← append_snoc es r (used_rows rs)) (rest-open (es ++ (r ∷ [])) rs (sym s ∙ g)))
      (λ g.
      let n = formed-front (es ++ (r ∷ [])) (used_rows rs) (sym s ∙ g) in
      rw (e, g, ← append_snoc es r (used_rows rs), n, and-false _)))

-- all rows are left, and none is used yet
pub rest_all : (own : ℕ) (rs : List (List ℕ)) → filled own rs ≡ fill_rest own [] true rs
unfolding filled form_ok
rest_all own rs = rw (le-leb 0 (length (used_rows rs)) (omega arith)) (sym (rest-open own [] rs refl))

-- ---- what may follow, by marks

-- a key is 0 where the word isn't active
key-none : (own w : ℕ) → eqb (key_of own w) 0 ≡ not (active own w)
key-none own w =
    by-test (active own w)
    (λ a. rw (key-active own w a, a) (eqb-suc-zero (code_field w)))
    (λ a. rw (key-idle own w a, a))

module _ (own : ℕ) (r : List ℕ) where
  -- a mark has a code's key where an entry has the code
  key-shown : (c : ℕ) (es : List (List ℕ)) (ms : List ℕ) → Marked own es ms
      → has_key (suc c) (take (length es) ms) ≡ has_code own c es
  unfolding any_entry has_key
  key-shown c [] ms m = refl
  key-shown c (e ∷ es) [] m = absurd m
  key-shown c (e ∷ es) (x ∷ xs) m =
      rw (m.1, key-eqb own c (packed e)) (ap (λ (b : Bool). active_as own c (packed e) || b) (key-shown c es xs m.2))

  -- the test by marks is the test of the rows
  pub follows-marked : (es : List (List ℕ)) (ms : List ℕ) → Marked own es ms
      → may_follow (length es) (key_of own (packed r)) ms ≡ follows own es r
  unfolding may_follow follows
  follows-marked [] ms m = refl
  follows-marked (e ∷ es) [] m = absurd m
  follows-marked (e ∷ es) (x ∷ xs) m =
      by-test (active own (packed r))
      (λ a.
      rw (
        eqb-suc-zero (length es),
        m.1,
        key-none own (packed r),
        key-none own (packed e),
        a,
        key-active own (packed r) a,
        key-shown (code_field (packed r)) (e ∷ es) (x ∷ xs) m,
      )
      (ap (λ (b : Bool). b && not (has_code own (code_field (packed r)) (e ∷ es)))
      (not-not (active own (packed e)))))
      (λ a. rw (eqb-suc-zero (length es), key-none own (packed r), a))

-- behind another, the two keys decide, and then whether one has the code
module _ (n key : ℕ) (ms : List ℕ) (some : n ≡ 0 → ⊥) where
  may-behind : {keyed : Bool} → keyed ≡ not (eqb key 0) && not (eqb (key_in (get_or ms 0 0)) 0)
      → keyed && not (has_key key (take n ms)) ≡ may_follow n key ms
  unfolding may_follow
  may-behind e =
      rw (e, ne_eqb n 0 some)
      (and_assoc (not (eqb key 0)) (not (eqb (key_in (get_or ms 0 0)) 0)) (not (has_key key (take n ms))))

  module _ {keyed : Bool} (e : keyed ≡ not (eqb key 0) && not (eqb (key_in (get_or ms 0 0)) 0)) where
    pub may-not : keyed ≡ false → keyed ≡ may_follow n key ms
    may-not f = f ∙ rw f at (may-behind e)

    pub may-keyed : keyed ≡ true → not (has_key key (take n ms)) ≡ may_follow n key ms
    may-keyed f = rw f at (may-behind e)

-- ---- what fill answers

module _ (own : ℕ) (rs : List (List ℕ)) where
  pub filled-broken : None ≡ filled own rs → form_ok own 0 rs ≡ false
  unfolding filled
  filled-broken e = cond-none (form_ok own 0 rs) _ e

  pub filled-used : {n : ℕ} → Some n ≡ filled own rs → (form_ok own 0 rs ≡ true) × (n ≡ length (used_rows rs))
  unfolding filled
  filled-used e = let x = cond_some (form_ok own 0 rs) _ _ (sym e) in (x.0, sym x.1)

  -- and back
  pub broken-filled : form_ok own 0 rs ≡ false → None ≡ filled own rs
  unfolding filled
  broken-filled f = rw f

  pub used-filled : {marks : List ℕ} {n : ℕ} → FilledBy own rs marks n → Some n ≡ filled own rs
  unfolding filled
  used-filled by = rw (by.form, by.many)
