-- The loop of fill: what it knows at row j of n used rows, a law to each branch, and what is known behind it.
use Prim.Native.Nat.{ℕ, zero, suc, ◌+◌, ◌≤◌, ◌<◌}
use mathlib.Core.Path.{◌≡◌, refl, sym, ap, ◌∙◌}
use mathlib.Core.Bool.{Bool, true, false, cond, ◌&&◌, and-false}
use mathlib.Core.List.{List, [], ◌∷◌, ◌++◌, append-nil}
use native.Mathlib.Nat.{add-zero}
use native.Mathlib.Omega.{arith}
use native.Mathlib.Numerals.{add-one}
use lib.Dec.{eqb}
use lib.ListN.{length, get_or, set, take, drop, replicate, get_or-replicate, drop_of_length-le}
use lib.Seq.{take-suc, take_all, length-take-le, drop-cons, append_snoc, set-append_seam}
use lib.Seq.{get_or-append-add, set-get_or}
use borrow.Author.Tests.{eqb-true, eq-eqb, ne_eqb}
use Rattle.spec.specs.Words.{row}
use Rattle.spec.specs.Blocks.{table_rows}
use Rattle.spec.specs.Entries.{packed, used_rows, form_ok}
use Rattle.spec.proofs.Blocks.{Given}
use Rattle.spec.proofs.Steps.{Formed, used-formed}
use Rattle.spec.proofs.Words.{and_left, and_right, not_so}
use Rattle.spec.proofs.Elements.{each-append}
use Rattle.marks.specs.Marks.{mark_of, key_of}
use Rattle.marks.specs.Marked.{Marked}
use Rattle.marks.proofs.Keys.{key-small, mark-some, mark-key}
use Rattle.marks.proofs.Places.{marked-zeros}
use Rattle.entries.specs.Forms.{may_follow, marks_of, FilledBy, filled}
use Rattle.std.specs.Prelude.{None}
use Rattle.entries.proofs.Marks.{length-marks, marks-of}
use Rattle.entries.proofs.Laws.{follows, fill_rest, rest_all, follows-marked, filled-used}

-- ---- marks

abbrev mark_at : ℕ → ℕ → List ℕ → ℕ
mark_at own place r = cond (eqb (get_or r 0 0) 0) 0 (mark_of place (key_of own (packed r)))

module _ (own : ℕ) where
  marks-snoc : (place : ℕ) (rs : List (List ℕ)) (r : List ℕ)
      → marks_of own place (rs ++ (r ∷ [])) ≡ marks_of own place rs ++ (mark_at own (place + length rs) r ∷ [])
  unfolding marks_of
  marks-snoc place [] r = rw (add-zero place)
  marks-snoc place (q ∷ rs) r =
      let e : suc place + length rs ≡ place + suc (length rs) = omega arith in
      rw (marks-snoc (suc place) rs r, e)

  -- used rows, and zeros behind
  marked-given : (place : ℕ) (es : List (List ℕ)) (zs : List ℕ) → 0 < place → Given es → Marked own [] zs
      → Marked own es (marks_of own place es ++ zs)
  unfolding marks_of
  marked-given place [] zs p g z = z
  marked-given place (e ∷ es) zs p g z =
      rw (ne_eqb (get_or e 0 0) 0 (omega (arith, g.0))) (
        mark-some place (key_of own (packed e)) p,
        mark-key place (key_of own (packed e)) (key-small own (packed e)),
        marked-given (suc place) es zs (omega arith) g.1 z,
      )

  zeros-drop : (n : ℕ) (zs : List ℕ) → Marked own [] zs → Marked own [] (drop n zs)
  zeros-drop zero zs z = z
  zeros-drop (suc n) [] z = tt
  zeros-drop (suc n) (x ∷ zs) z = zeros-drop n zs z.1

-- the marks of the rows passed, and zeros behind
abbrev marks-before : ℕ → List (List ℕ) → ℕ → List ℕ
marks-before own rows j = marks_of own 1 (take j rows) ++ drop j (replicate 8 0)

-- n of the first j rows are used, and are the first; these are marked
pub record Filling (own : ℕ) (rows : List (List ℕ)) (marks : List ℕ) (n j : ℕ) : Type 0 where
  pub used : n ≤ j
  pub few : j ≤ 8
  pub made : marks ≡ marks-before own rows j
  pub given : n ≡ j → Given (take n rows)
  pub rest : filled own rows ≡ fill_rest own (take n rows) (eqb n j) (drop j rows)

pub filling-start : (own : ℕ) (rows : List (List ℕ)) {marks : List ℕ} → marks ≡ replicate 8 0
    → Filling own rows marks 0 0
unfolding marks_of
filling-start own rows e =
    record { used = omega arith; few = omega arith; made = e; given = λ e. tt; rest = rest_all own rows }

module _ {own : ℕ} {rows : List (List ℕ)} {marks : List ℕ} {n j : ℕ} (v : Filling own rows marks n j) where
  pub filling-end : length rows ≡ 8 → 8 ≤ j → FilledBy own rows marks n
  unfolding fill_rest
  filling-end size h =
      let e : j ≡ 8 = omega (arith, v.few) in
      let l : length (take n rows) ≡ n = length-take-le n rows (omega (arith, v.used, v.few)) in
      let x : (form_ok own 0 rows ≡ true) × (n ≡ length (used_rows rows)) =
      filled-used own rows (sym (v.rest ∙ rw (drop_of_length-le rows {i = j} (omega arith), l))) in
      record {
        size = size;
        form = x.0;
        many = x.1;
        is = v.made ∙ rw (take_all j rows (omega arith), e, append-nil (marks_of own 1 rows));
      }

-- a turn: row j is read
pub record Reading (own : ℕ) (rows : List (List ℕ)) (marks : List ℕ) (n j number time word : ℕ) : Type 0 where
  pub filling : Filling own rows marks n j
  pub size : length rows ≡ 8
  pub more : j < 8
  pub is : get_or rows j [] ≡ number ∷ time ∷ word ∷ []

-- what is known once row j is read
pub reading : {own : ℕ} {rows : List (List ℕ)} {marks : List ℕ} {n j number time word : ℕ}
    → Filling own rows marks n j → length rows ≡ 8 → j < 8 → get_or rows j [] ≡ number ∷ time ∷ word ∷ []
    → Reading own rows marks n j number time word
reading f size more is = record { filling = f; size = size; more = more; is = is }

module _ {own : ℕ} {rows : List (List ℕ)} {marks : List ℕ} {n j number time word : ℕ}
    (d : Reading own rows marks n j number time word) where
  abbrev here : List ℕ
  here = number ∷ time ∷ word ∷ []

  abbrev zeros : List ℕ
  zeros = replicate 8 0

  passed : length (take j rows) ≡ j
  passed = length-take-le j rows (omega (arith, d.size, d.more))

  passed-marks : length (marks_of own 1 (take j rows)) ≡ j
  passed-marks = length-marks own 1 (take j rows) ∙ passed

  reading-marked : n ≡ j → Marked own (take n rows) marks
  reading-marked q =
      let g = d.filling.given q in
      rw (d.filling.made, ← q)
      (marked-given own 1 (take n rows) (drop n (replicate 8 0)) (omega arith) g
      (zeros-drop own n (replicate 8 0) (marked-zeros own 8)))

  rest-row : filled own rows ≡ fill_rest own (take n rows) (eqb n j) (here ∷ drop (suc j) rows)
  rest-row =
      d.filling.rest
      ∙ ap (fill_rest own (take n rows) (eqb n j))
      (drop-cons rows j [] (omega (arith, d.size, d.more)) ∙ ap (λ x. x ∷ drop (suc j) rows) d.is)

  take_row : take (j + 1) rows ≡ take j rows ++ (here ∷ [])
  take_row = rw (add-one, take-suc rows j [] (omega (arith, d.size, d.more)), d.is)

  -- the words behind those passed: 0, and the others
  behind : drop j zeros ≡ 0 ∷ drop (suc j) zeros
  behind =
      drop-cons zeros j 0 d.more ∙ ap (λ (x : ℕ). x ∷ drop (suc j) zeros) (get_or-replicate 8 j 0 0 d.more)

  -- the row's mark
  made_row : set marks j (mark_at own (j + 1) here) ≡ marks-before own rows (j + 1)
  made_row =
      let m : List ℕ = marks_of own 1 (take j rows) in
      let x : ℕ = mark_at own (j + 1) here in
      let rest : List ℕ = drop (suc j) zeros in
      let p : 1 + length (take j rows) ≡ j + 1 = omega (arith, passed) in
      let a : set (m ++ (0 ∷ rest)) j x ≡ m ++ (x ∷ rest) = rw passed-marks at (set-append_seam m 0 rest x) in
      let b : marks_of own 1 (take (j + 1) rows) ≡ m ++ (x ∷ []) =
      rw (take_row, marks-snoc own 1 (take j rows) here, p) in
      let e : drop (j + 1) zeros ≡ rest = rw (add-one j) in
      ap (λ (l : List ℕ). set l j x) (d.filling.made ∙ ap (λ (l : List ℕ). m ++ l) behind)
      ∙ (a
      ∙ sym (ap (λ (l : List ℕ). l ++ drop (j + 1) zeros) b
      ∙ (append_snoc m x (drop (j + 1) zeros) ∙ ap (λ (l : List ℕ). m ++ (x ∷ l)) e)))

  -- there is none yet
  unmarked : get_or marks j 0 ≡ 0
  unmarked =
      let m : List ℕ = marks_of own 1 (take j rows) in
      rw (d.filling.made, behind)
      (rw (add-zero (length m), passed-marks) at (get_or-append-add m (0 ∷ drop (suc j) zeros) 0 0))

  -- an unused row
  module _ (z : number ≡ 0) where
    pub reading-spoilt : (time ≡ 0 → word ≡ 0 → ⊥) → None ≡ filled own rows
    unfolding fill_rest
    reading-spoilt f =
        let g : false ≡ eqb time 0 && eqb word 0 =
        not_so _ (λ b. f (eqb-true time 0 (and_left _ _ b)) (eqb-true word 0 (and_right (eqb time 0) _ b))) in
        sym (rest-row ∙ rw (z, ← g))

    pub reading-unused : time ≡ 0 → word ≡ 0 → Filling own rows marks n (j + 1)
    unfolding fill_rest
    reading-unused a b =
        record {
          used = omega (arith, d.filling.used);
          few = omega (arith, d.more);
          made = sym (rw z (ap (set marks j) (sym unmarked) ∙ set-get_or marks j 0)) ∙ made_row;
          given = λ q. absurd (omega (arith, d.filling.used));
          rest = rest-row ∙ rw (z, a, b, ne_eqb n (j + 1) (omega (arith, d.filling.used)), add-one j);
        }

  -- a used one
  module _ (u : number ≡ 0 → ⊥) where
    pub reading-late : (n ≡ j → ⊥) → None ≡ filled own rows
    unfolding fill_rest
    reading-late f = sym (rest-row ∙ rw (ne_eqb number 0 u, ne_eqb n j f))

    module _ {key : ℕ} (k : key ≡ key_of own word) (q : n ≡ j) {t : Bool}
        (f : t ≡ may_follow n key marks) where
      by-marks : follows own (take n rows) here ≡ t
      by-marks =
          let e : length (take n rows) ≡ n = length-take-le n rows (omega (arith, d.size, d.more)) in
          sym (f ∙ rw k (rw e at (follows-marked own here (take n rows) marks (reading-marked q))))

      pub reading-refused : t ≡ false → None ≡ filled own rows
      unfolding fill_rest
      reading-refused g = sym (rest-row ∙ rw (ne_eqb number 0 u, by-marks ∙ g, and-false))

      take-used : take (n + 1) rows ≡ take n rows ++ (here ∷ [])
      take-used = rw q take_row

      pub reading-used : t ≡ true → {mark : ℕ} → mark ≡ mark_of (j + 1) key
          → Filling own rows (set marks j mark) (n + 1) (j + 1)
      unfolding fill_rest
      reading-used g m =
          record {
            used = omega arith;
            few = omega (arith, d.more);
            made = ap (set marks j) (m ∙ rw (ne_eqb number 0 u, k)) ∙ made_row;
            given = λ x. rw take-used (each-append _ (take n rows) (here ∷ []) (d.filling.given q) (omega (arith, u), tt));
            rest =
                rest-row
                ∙ rw (
                  ne_eqb number 0 u,
                  eq-eqb n j q,
                  by-marks ∙ g,
                  take-used,
                  eq-eqb (n + 1) (j + 1) (omega arith),
                  add-one j,
                );
          }

-- row j of those read from row k on
pub row_of : (st : List ℕ) (t w n k j : ℕ) → j < n → get_or (table_rows st t w n k) j [] ≡ row st t w (k + j) 3
unfolding table_rows
row_of st t w zero k j h = absurd (omega arith)
row_of st t w (suc n) k zero h = rw (add-zero k)
row_of st t w (suc n) k (suc j) h =
    let e : suc k + j ≡ k + suc j = omega arith in
    row_of st t w n (suc k) j (omega arith) ∙ rw e

pub rows-many : (st : List ℕ) (t w n k : ℕ) → length (table_rows st t w n k) ≡ n
unfolding table_rows
rows-many st t w zero k = refl
rows-many st t w (suc n) k = ap suc (rows-many st t w n (suc k))

module _ {own : ℕ} {rs : List (List ℕ)} {marks : List ℕ} {n : ℕ} (by : FilledBy own rs marks n) where
  pub by-marked : Marked own (used_rows rs) marks
  by-marked = rw by.is (marks-of own 0 rs by.form)

  pub by-eight : length marks ≡ 8
  by-eight = rw by.is (length-marks own 1 rs ∙ by.size)

  pub by-formed : Formed own (used_rows rs)
  by-formed = used-formed own 0 rs by.form
