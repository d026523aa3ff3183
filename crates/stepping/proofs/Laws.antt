-- The step of an item's rows by columns, and whether they take one more observation.
use Prim.Native.Nat.{ℕ, ◌+◌, ◌*◌, ◌≤◌}
use mathlib.Core.Path.{◌≡◌, refl, sym, ap, ◌∙◌}
use mathlib.Core.Bool.{Bool, true, false, not, not-not}
use mathlib.Core.List.{List, [], ◌∷◌}
use native.Mathlib.Omega.{arith}
use lib.Dec.{leb}
use lib.ListN.{length, get_or, take, drop}
use lib.Seq.{sets}
use Rattle.std.specs.Prelude.{Option, Some, None, MatchOption}
use Rattle.spec.specs.Blocks.{table_rows, put_rows, unused, padded}
use Rattle.spec.specs.Entries.{packed, used_rows, step, form_ok}
use Rattle.spec.proofs.Blocks.{Threes, padded-threes}
use Rattle.spec.proofs.Steps.{rows-three, used-three, step-three, used-formed}
use Rattle.changes.specs.Changes.{ChangeFits, change_for, changed, is_full}
use Rattle.marks.specs.Marks.{eight_at}
use Rattle.marks.specs.Marked.{Marked}
use Rattle.changes.specs.contracts.ChangePartialEq.TheImpl as compared
use Rattle.changes.specs.declared.Change.{Change}
use Rattle.changes.specs.declared.Change.TheVariants.{Put, Alone, Out, Stay, Full}
use Rattle.changes.proofs.Steps.{change-full, change-steps, changed-map, length-changed}
use Rattle.entries.specs.declared.Filled.{Filled}
use Rattle.entries.specs.Forms.{marks_of, FilledBy}
use Rattle.stepping.specs.Taking.{takes_one}
use Rattle.entries.proofs.Columns.{column, length-column, drop-sets, put-columns}
use Rattle.entries.proofs.Columns.{numbers-read, times-read, words-read}
use Rattle.entries.proofs.Filling.{rows-many, by-marked, by-eight, by-formed}
use Rattle.entries.proofs.Marks.{length-marks, marks-of, form-zeros, rows-padded}

-- the derived `==` tells Full from the others
other : (h : Change) {r : Bool} → r ≡ not ((compared.ghosts).eq h Full) → r ≡ not (is_full h)
other (Put j) e = e
other Alone e = e
other (Out j) e = e
other Stay e = e
other Full e = e

-- broken entries take none; of others the change that their marks give is Full, or not
pub takes-tested : (own : ℕ) (rs : List (List ℕ)) (word : ℕ) (o : Option Filled)
    → MatchOption o (form_ok own 0 rs ≡ false) (λ f. FilledBy own rs f.marks f.used)
    → (r : Bool) (P : Filled → Type 0) → MatchOption o (r ≡ false) P
    → ((f : Filled) → P f → r ≡ not ((compared.ghosts).eq (change_for own f.marks word) Full))
    → r ≡ takes_one own rs word
unfolding takes_one
takes-tested own rs word None h r P g f = g ∙ rw h refl
takes-tested own rs word (Some x) h r P g f =
    let new : List ℕ = 0 ∷ 0 ∷ word ∷ [] in
    other _ (f x g)
    ∙ rw (change-full own (used_rows rs) x.marks new (by-formed h) (by-marked h) (by-eight h), h.form)
    (not-not (leb (length (step own (used_rows rs) new)) 8))

-- ---- the step by columns

-- the rows behind the step are the change of the rows
module _ (own : ℕ) (rs : List (List ℕ)) (size : length rs ≡ 8) (three : Threes rs) (form : form_ok own 0 rs ≡ true)
    {ms : List ℕ} (is : ms ≡ marks_of own 1 rs) (r : List ℕ) where
  pub rows-stepped : changed unused (change_for own ms (packed r)) r rs ≡ padded 8 (step own (used_rows rs) r)
  rows-stepped =
      let m : Marked own (used_rows rs) ms = rw is (marks-of own 0 rs form) in
      let l : length ms ≡ 8 = rw is (length-marks own 1 rs ∙ size) in
      let p : rs ≡ padded 8 (used_rows rs) = rw size at (rows-padded rs three (form-zeros own 0 rs form)) in
      ap (changed unused (change_for own ms (packed r)) r) p
      ∙ change-steps own (used_rows rs) ms r (used-formed own 0 rs form) m l

-- a change of three columns, one behind the other, is the change of the rows
module _ (st : List ℕ) (t w k : ℕ) (inside : k + 8 ≤ w) (room : t + 3 * w ≤ length st)
    (h : Change) (fits : ChangeFits h) (number time word : ℕ) where
  abbrev rows : List (List ℕ)
  rows = table_rows st t w 8 k

  abbrev new : List ℕ
  new = number ∷ time ∷ word ∷ []

  -- a column of the changed rows
  column-changed : (c : ℕ) → get_or {A = ℕ} unused c 0 ≡ 0 → {l : List ℕ} → column c rows ≡ l
      → changed 0 h (get_or {A = ℕ} new c 0) l ≡ column c (changed unused h new rows)
  column-changed c z e =
      ap (changed 0 h (get_or {A = ℕ} new c 0)) (sym e)
      ∙ sym (rw z at (changed-map (λ r. get_or r c 0) unused h new rows))

  pub columns-changed : {a b d : List ℕ}
      → a ≡ sets st (t + k) (changed 0 h number (eight_at st (t + k)))
      → b ≡ sets a (t + k + w) (changed 0 h time (eight_at a (t + k + w)))
      → d ≡ sets b (t + k + w + w) (changed 0 h word (eight_at b (t + k + w + w)))
      → Threes (changed unused h new rows)
      → d ≡ put_rows st t w k (changed unused h new rows)
  columns-changed {a} {b} {d} ea eb ed three =
      let x : List (List ℕ) = changed unused h new rows in
      let n : length x ≡ 8 = length-changed unused h new rows fits (rows-many st t w 8 k) in
      let p : t + k + w ≡ t + w + k = omega arith in
      let q : t + k + w + w ≡ t + w + w + k = omega arith in
      let na : a ≡ sets st (t + k) (column 0 x) =
      ea ∙ ap (sets st (t + k)) (column-changed 0 refl (numbers-read st t w 8 k inside room)) in
      let fa : (j : ℕ) → t + k + 8 ≤ j → eight_at a j ≡ eight_at st j =
      λ j g.
      ap (take 8)
      (ap (drop j) na ∙ drop-sets (column 0 x) st (t + k) j (omega (arith, n, length-column 0 x))) in
      let nb : b ≡ sets a (t + w + k) (column 1 x) =
      eb
      ∙ rw (p, fa (t + w + k) (omega arith))
      (ap (sets a (t + w + k)) (column-changed 1 refl (times-read st t w 8 k inside room))) in
      let fb : eight_at b (t + w + w + k) ≡ eight_at st (t + w + w + k) =
      ap (take 8)
      (ap (drop (t + w + w + k)) nb
      ∙ drop-sets (column 1 x) a (t + w + k) (t + w + w + k) (omega (arith, n, length-column 1 x)))
      ∙ fa (t + w + w + k) (omega arith) in
      let nd : d ≡ sets b (t + w + w + k) (column 2 x) =
      ed
      ∙ rw (q, fb)
      (ap (sets b (t + w + w + k)) (column-changed 2 refl (words-read st t w 8 k inside room))) in
      nd ∙ rw (nb, na) (sym (put-columns x st t w k three (omega arith)))

  -- where h is the change that the marks give, the step of the rows is put
  pub step-put : (own : ℕ) → form_ok own 0 rows ≡ true → {ms : List ℕ} → ms ≡ marks_of own 1 rows
      → h ≡ change_for own ms word → {at : List ℕ} → at ≡ (t + k) ∷ (t + k + w) ∷ (t + k + w + w) ∷ []
      → {a b d : List ℕ}
      → a ≡ sets st (get_or at 0 0) (changed 0 h number (eight_at st (get_or at 0 0)))
      → b ≡ sets a (get_or at 1 0) (changed 0 h time (eight_at a (get_or at 1 0)))
      → d ≡ sets b (get_or at 2 0) (changed 0 h word (eight_at b (get_or at 2 0)))
      → d ≡ put_rows st t w k (padded 8 (step own (used_rows rows) new))
  step-put own form is e places ea eb ed =
      let three = rows-three st t w 8 k in
      let q : changed unused h new rows ≡ padded 8 (step own (used_rows rows) new) =
      rw e (rows-stepped own rows (rows-many st t w 8 k) three form is new) in
      let f : Threes (changed unused h new rows) =
      rw q (padded-threes 8 _ (step-three own (used_rows rows) new refl (used-three rows three))) in
      columns-changed (rw places at ea) (rw places at eb) (rw places at ed) f ∙ ap (put_rows st t w k) q
