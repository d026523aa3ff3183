-- The step over the words of any store, damaged or not: rows stay rows of three words, nine entries stay, and only
-- lists of the written form are ever stepped.
use mathlib.Core.Path.{◌≡◌, refl, sym, ap, ◌∙◌}
use mathlib.Core.Logic.{◌⊎◌, inl, inr}
use mathlib.Core.Bool.{true, false, ◌&&◌, not, true≢false, false≢true, or-false, or-true, and-false}
use Prim.Native.Nat.{ℕ, zero, suc, ◌+◌, ◌*◌, ◌^◌, ◌≤◌, ◌<◌}
use native.Mathlib.Nat.{div-add-mod'}
use native.Mathlib.Omega.{arith}
use mathlib.Core.List.{List, [], ◌∷◌}
use lib.Dec.{leb, ltb, eqb}
use lib.ListN.{length, get_or, drop}
use borrow.Author.Tests.{ltb-false, leb-true, eqb-true, eqb-false, eq-eqb, ne_eqb, lt-ltb, le-leb, not-true}
use Rattle.spec.specs.Words.{row}
use Rattle.spec.specs.Value.{item_of}
use Rattle.spec.specs.Blocks.{table_rows}
use Rattle.spec.specs.Entries.{active, active_as, kind_field, level_field, normal, packed, holds, any_entry}
use Rattle.spec.specs.Entries.{code_field, has_code, any_active, entered, cleared, or_alone, step_active, step}
use Rattle.spec.specs.Entries.{each_row, zero_row, used_rows, codes_differ, form_ok, repeats_in, crowded}
use Rattle.spec.proofs.Words.{and_left, and_right, by-test}
use Rattle.std.proofs.lemmas.Bool.{and_from}
use Rattle.spec.proofs.Blocks.{Threes}

-- the step's four outcomes
pub step-cases : (P : List (List ℕ) → Type 0) (own : ℕ) (es : List (List ℕ)) (r : List ℕ)
    → (ltb 8 (length es) ≡ true → P es)
    → (length es ≤ 8 → any_active own es ≡ true → active own (packed r) ≡ true → P (entered own r es))
    → (length es ≤ 8 → any_active own es ≡ true → P (or_alone r (cleared own (code_field (packed r)) es)))
    → P (r ∷ [])
    → P (step own es r)
unfolding step step_active
step-cases P own es r nine raise clear alone =
    by-test (ltb 8 (length es))
    (λ e. rw e (nine e))
    (λ e.
    by-test (any_active own es)
    (λ f.
    by-test (active own (packed r))
    (λ g. rw (e, f, g) (raise (ltb-false 8 (length es) e) f g))
    (λ g.
    by-test (normal (packed r) && not (eqb (code_field (packed r)) 0))
    (λ k. rw (e, f, g, k) (clear (ltb-false 8 (length es) e) f))
    (λ k. rw (e, f, g, k) alone)))
    (λ f. rw (e, f) alone))

-- ---- rows of three words

pub rows-three : (st : List ℕ) (b w n k : ℕ) → Threes (table_rows st b w n k)
unfolding table_rows row
rows-three st b w zero k = tt
rows-three st b w (suc n) k = (refl, rows-three st b w n (suc k))

pub used-three : (rs : List (List ℕ)) → Threes rs → Threes (used_rows rs)
unfolding used_rows
used-three [] t = tt
used-three (r ∷ rs) t = by-test (eqb (get_or r 0 0) 0) (λ e. rw e tt) (λ e. rw e (t.0, used-three rs t.1))

three-more : (r : List ℕ) (rs : List (List ℕ)) → length r ≡ 3 → Threes rs → Threes (r ∷ rs)
three-more r rs h t = (h, t)

entered-three : (own : ℕ) (r : List ℕ) (es : List (List ℕ)) → length r ≡ 3 → Threes es → Threes (entered own r es)
unfolding entered
entered-three own r [] h t = (h, tt)
entered-three own r (e ∷ es) h t =
    by-test (active_as own (code_field (packed r)) (packed e)) (λ f. rw f (three-more r es h t.1))
    (λ f. rw f (three-more e (entered own r es) t.0 (entered-three own r es h t.1)))

cleared-three : (own c : ℕ) (es : List (List ℕ)) → Threes es → Threes (cleared own c es)
unfolding cleared
cleared-three own c [] t = tt
cleared-three own c (e ∷ es) t =
    by-test (active_as own c (packed e)) (λ f. rw f t.1) (λ f. rw f (t.0, cleared-three own c es t.1))

alone-three : (r : List ℕ) (es : List (List ℕ)) → length r ≡ 3 → Threes es → Threes (or_alone r es)
alone-three r [] h t = three-more r [] h tt
alone-three r (e ∷ es) h t = t

pub step-three : (own : ℕ) (es : List (List ℕ)) (r : List ℕ) → length r ≡ 3 → Threes es → Threes (step own es r)
step-three own es r h t =
    step-cases Threes own es r (λ e. t)
    (λ l f g. entered-three own r es h t)
    (λ l f. alone-three r (cleared own (code_field (packed r)) es) h (cleared-three own (code_field (packed r)) es t))
    (h, tt)

-- ---- nine

pub nine-stays : (own : ℕ) (es : List (List ℕ)) (r : List ℕ) → 8 < length es → step own es r ≡ es
unfolding step
nine-stays own es r h = rw (lt-ltb 8 (length es) h)

length-entered : (own : ℕ) (r : List ℕ) (es : List (List ℕ)) → length (entered own r es) ≤ suc (length es)
unfolding entered
length-entered own r [] = omega arith
length-entered own r (e ∷ es) =
    by-test (active_as own (code_field (packed r)) (packed e)) (λ f. rw f (omega arith))
    (λ f. rw f (omega (arith, length-entered own r es)))

length-cleared : (own c : ℕ) (es : List (List ℕ)) → length (cleared own c es) ≤ length es
unfolding cleared
length-cleared own c [] = omega arith
length-cleared own c (e ∷ es) =
    by-test (active_as own c (packed e)) (λ f. rw f (omega arith)) (λ f. rw f (omega (arith, length-cleared own c es)))

length-alone : (r : List ℕ) (es : List (List ℕ)) → length (or_alone r es) ≤ suc (length es)
length-alone r [] = omega arith
length-alone r (e ∷ es) = omega arith

-- never ten
pub step-nine : (own : ℕ) (es : List (List ℕ)) (r : List ℕ) → length es ≤ 9 → length (step own es r) ≤ 9
step-nine own es r h =
    step-cases (λ l. length l ≤ 9) own es r (λ e. h)
    (λ l f g. omega (arith, length-entered own r es))
    (λ l f.
    omega
    (arith, length-cleared own (code_field (packed r)) es, length-alone r (cleared own (code_field (packed r)) es)))
    (omega arith)

-- ---- a step's length, by the packed word alone

module _ (own : ℕ) (r t : List ℕ) (q : packed r ≡ packed t) where
  entered-length : (es : List (List ℕ)) → length (entered own r es) ≡ length (entered own t es)
  unfolding entered
  entered-length [] = refl
  entered-length (e ∷ es) =
      by-test (active_as own (code_field (packed t)) (packed e))
      (λ k. rw (q, k))
      (λ k. rw (q, k) (ap suc (entered-length es)))

  alone-length : (es : List (List ℕ)) → length (or_alone r es) ≡ length (or_alone t es)
  alone-length [] = refl
  alone-length (e ∷ es) = refl

  pub step-length-word : (es : List (List ℕ)) → length (step own es r) ≡ length (step own es t)
  unfolding step step_active
  step-length-word es =
      by-test (ltb 8 (length es))
      (λ e. rw e)
      (λ e.
      by-test (any_active own es)
      (λ f.
      by-test (active own (packed t))
      (λ g. rw (e, f, q, g) (entered-length es))
      (λ g.
      by-test (normal (packed t) && not (eqb (code_field (packed t)) 0))
      (λ k. rw (e, f, q, g, k) (alone-length (cleared own (code_field (packed t)) es)))
      (λ k. rw (e, f, q, g, k))))
      (λ f. rw (e, f)))

-- ---- the written form

-- one entry at most, or all active with different codes
abbrev pub Formed : ℕ → List (List ℕ) → Type 0
Formed own es = (length es ≤ 1) ⊎ (codes_differ own es ≡ true)

-- where some are active all are, with different codes: it is enough to look at the first
pub formed-active : (own : ℕ) (es : List (List ℕ)) → Formed own es → any_active own es ≡ true
    → codes_differ own es ≡ true
unfolding any_entry codes_differ
formed-active own es (inr d) a = d
formed-active own [] (inl h) a = refl
formed-active own (e ∷ []) (inl h) a = rw (sym (or-false (active own (packed e))), a)
formed-active own (e ∷ f ∷ es) (inl h) a = absurd (omega arith)

pub first-tells : (own : ℕ) (e : List ℕ) (es : List (List ℕ)) → Formed own (e ∷ es)
    → any_active own (e ∷ es) ≡ active own (packed e)
unfolding any_entry codes_differ
first-tells own e es (inr d) = rw (and_left (active own (packed e)) _ d)
first-tells own e [] (inl h) = or-false (active own (packed e))
first-tells own e (f ∷ es) (inl h) = absurd (omega arith)

-- which codes are there behind a step
has-entered : (own c : ℕ) (r : List ℕ) (es : List (List ℕ)) → has_code own c es ≡ false
    → eqb (code_field (packed r)) c ≡ false → has_code own c (entered own r es) ≡ false
unfolding entered any_entry
has-entered own c r [] h n = rw (n, and-false (active own (packed r)))
has-entered own c r (e ∷ es) h n =
    by-test (active_as own c (packed e))
    (λ t. absurd (true≢false (rw t at h)))
    (λ t.
    by-test (active_as own (code_field (packed r)) (packed e))
    (λ f. rw (f, n, and-false (active own (packed r))) (rw t at h))
    (λ f. rw (f, t) (has-entered own c r es (rw t at h) n)))

has-cleared : (own c d : ℕ) (es : List (List ℕ)) → has_code own c es ≡ false → has_code own c (cleared own d es) ≡ false
unfolding cleared any_entry
has-cleared own c d [] h = refl
has-cleared own c d (e ∷ es) h =
    by-test (active_as own c (packed e))
    (λ t. absurd (true≢false (rw t at h)))
    (λ t.
    by-test (active_as own d (packed e))
    (λ f. rw f (rw t at h))
    (λ f. rw (f, t) (has-cleared own c d es (rw t at h))))

-- the parts of codes_differ
module _ (own : ℕ) (e : List ℕ) (es : List (List ℕ)) (d : codes_differ own (e ∷ es) ≡ true) where
  pub differ-first : active own (packed e) ≡ true
  unfolding codes_differ
  differ-first = and_left (active own (packed e)) _ d

  pub differ-none : has_code own (code_field (packed e)) es ≡ false
  unfolding codes_differ
  differ-none =
      not-true _ (and_left (not (has_code own (code_field (packed e)) es)) _ (and_right (active own (packed e)) _ d))

  pub differ-rest : codes_differ own es ≡ true
  unfolding codes_differ
  differ-rest = and_right (not (has_code own (code_field (packed e)) es)) _ (and_right (active own (packed e)) _ d)

entered-differ : (own : ℕ) (r : List ℕ) (es : List (List ℕ)) → active own (packed r) ≡ true → codes_differ own es ≡ true
    → codes_differ own (entered own r es) ≡ true
unfolding entered codes_differ any_entry
entered-differ own r [] a d = rw a
entered-differ own r (e ∷ es) a d =
    by-test (eqb (code_field (packed e)) (code_field (packed r)))
    (λ f.
    let q : code_field (packed r) ≡ code_field (packed e) =
    sym (eqb-true (code_field (packed e)) (code_field (packed r)) f) in
    rw (differ-first own e es d, f, a, q, differ-none own e es d, differ-rest own e es d))
    (λ f.
    let n : eqb (code_field (packed r)) (code_field (packed e)) ≡ false =
    ne_eqb (code_field (packed r)) (code_field (packed e))
    (λ q. eqb-false (code_field (packed e)) (code_field (packed r)) f (sym q)) in
    rw (
      differ-first own e es d,
      f,
      differ-first own e es d,
      has-entered own (code_field (packed e)) r es (differ-none own e es d) n,
    )
    (entered-differ own r es a (differ-rest own e es d)))

cleared-differ : (own c : ℕ) (es : List (List ℕ)) → codes_differ own es ≡ true
    → codes_differ own (cleared own c es) ≡ true
unfolding cleared codes_differ
cleared-differ own c [] d = refl
cleared-differ own c (e ∷ es) d =
    by-test (active_as own c (packed e))
    (λ f. rw f (differ-rest own e es d))
    (λ f.
    rw (f, differ-first own e es d, has-cleared own (code_field (packed e)) c es (differ-none own e es d))
    (cleared-differ own c es (differ-rest own e es d)))

alone-formed : (own : ℕ) (r : List ℕ) (es : List (List ℕ)) → codes_differ own es ≡ true → Formed own (or_alone r es)
alone-formed own r [] d = inl (omega arith)
alone-formed own r (e ∷ es) d = inr d

-- the step keeps the form
pub step-formed : (own : ℕ) (es : List (List ℕ)) (r : List ℕ) → Formed own es → Formed own (step own es r)
step-formed own es r f =
    step-cases (Formed own) own es r (λ e. f)
    (λ l a g. inr (entered-differ own r es g (formed-active own es f a)))
    (λ l a.
    alone-formed own r (cleared own (code_field (packed r)) es)
    (cleared-differ own (code_field (packed r)) es (formed-active own es f a)))
    (inl (omega arith))

-- which a tested table's rows have
pub used-formed : (own least : ℕ) (rs : List (List ℕ)) → form_ok own least rs ≡ true → Formed own (used_rows rs)
unfolding form_ok
used-formed own least rs h =
    let t =
    and_right (each_row zero_row (drop (length (used_rows rs)) rs)) _
    (and_right (leb least (length (used_rows rs))) _ h) in
    by-test (leb (length (used_rows rs)) 1) (λ e. inl (leb-true _ 1 e)) (λ e. inr (rw e at t))

-- rows with an entry have the form that rows with none may have too
pub form-less : (own : ℕ) (rs : List (List ℕ)) → form_ok own 1 rs ≡ true → form_ok own 0 rs ≡ true
unfolding form_ok
form-less own rs h =
    and_from (leb 0 (length (used_rows rs))) _ (le-leb 0 (length (used_rows rs)) (omega arith))
    (and_right (leb 1 (length (used_rows rs))) _ h)

-- ---- Same and 19 exclude each other

-- an entry that is active at a word's level for its code is that word
pub same_word : (own x w : ℕ) → active own x ≡ true → active own w ≡ true → level_field x ≡ level_field w
    → code_field x ≡ code_field w → x ≡ w
unfolding active
same_word own x w a b l c =
    let fx = eqb-true (item_of x) own (and_left (eqb (item_of x) own) _ a) in
    let fw = eqb-true (item_of w) own (and_left (eqb (item_of w) own) _ b) in
    let kx = eqb-true (kind_field x) 3 (and_left (eqb (kind_field x) 3) _ (and_right (eqb (item_of x) own) _ a)) in
    let kw = eqb-true (kind_field w) 3 (and_left (eqb (kind_field w) 3) _ (and_right (eqb (item_of w) own) _ b)) in
    parts x ∙ rw (fx, kx, l, c) (rw (fw, kw) at (sym (parts w)))
  where
    parts : (y : ℕ) → y ≡ ((item_of y * 256 + kind_field y) * 256 + level_field y) * 2 ^ 24 + code_field y
    parts y = omega (arith, div-add-mod' y (2 ^ 24))

pub holds-code : (own w : ℕ) (es : List (List ℕ)) → active own w ≡ true → holds w es ≡ true
    → has_code own (code_field w) es ≡ true
unfolding any_entry
holds-code own w [] a h = h
holds-code own w (e ∷ es) a h =
    by-test (eqb (packed e) w)
    (λ f. rw (eqb-true (packed e) w f, a, eq-eqb (code_field w) (code_field w) refl))
    (λ f. rw (holds-code own w es a (rw f at h)) (or-true (active_as own (code_field w) (packed e))))

pub active-not-normal : (own w : ℕ) → active own w ≡ true → normal w ≡ false
unfolding active normal
active-not-normal own w a =
    by-test (eqb (level_field w) 0)
    (λ e.
    let z : level_field w ≡ 0 = eqb-true (level_field w) 0 e in
    absurd (false≢true (rw (z, and-false (eqb (kind_field w) 3), and-false (eqb (item_of w) own)) at a)))
    (λ e. rw (e, and-false (eqb (kind_field w) 3)))

pub never_both : (own w : ℕ) (es : List (List ℕ)) → repeats_in own es w ≡ true → crowded own es w ≡ false
unfolding repeats_in crowded
never_both own w es h =
    by-test (active own w)
    (λ a. rw (a, holds-code own w es a (rw (active-not-normal own w a) at h)))
    (λ a. rw a)
