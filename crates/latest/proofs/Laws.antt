-- Laws of the latest entries: an item's used rows one after another, and the rows beyond the first of each item.
use Prim.Native.Nat.{ℕ, zero, suc, ◌+◌, ◌-◌, ◌*◌, ◌^◌, ◌≤◌, ◌<◌}
use mathlib.Core.Path.{◌≡◌, refl, sym, ◌∙◌}
use mathlib.Core.Logic.{◌⊎◌, inl, inr}
use mathlib.Core.Bool.{Bool, true, false, cond, ◌&&◌, ◌||◌, not, and-false}
use mathlib.Core.List.{List, [], ◌∷◌}
use Rattle.std.specs.Prelude.{min, Option, Some, None, MatchOption}
use Rattle.std.proofs.lemmas.List.{nil_from_length}
use Rattle.std.proofs.lemmas.Option.{cond_some}
use native.Mathlib.Numerals.{add-one}
use native.Mathlib.Omega.{arith}
use lib.Count.{ones}
use lib.Dec.{leb, eqb}
use lib.ListN.{length, get_or, drop, drop_of_length-le}
use lib.Seq.{drop-cons}
use borrow.Author.Tests.{eq-eqb, ne_eqb, le-leb, lt-leb, leb-true, leb-false}
use Rattle.spec.specs.Words.{every, bit}
use Rattle.spec.specs.Blocks.{table_rows, extra_rows}
use Rattle.spec.specs.Entries.{used_rows, form_ok}
use Rattle.spec.specs.Model.{max_items}
use Rattle.history.specs.Observations.{Head, ring_size, latest_at, is_condition, item_rows, latest_rows}
use Rattle.history.specs.Observations.{current_ok, current_rows}
use Rattle.spec.proofs.Words.{by-test, and_right, by_cond, told, every-no, every-yes, every-end, one-more, none-left}
use Rattle.spec.proofs.Bits.{rows-ones}
use Rattle.spec.proofs.Found.{cond-none}
use Rattle.history.proofs.Pass.{current-count}
use Rattle.entries.proofs.Filling.{rows-many}
use Rattle.entries.proofs.Kept.{Kept, kept-none, kept-some}
use Rattle.entries.proofs.Laws.{filled-broken, filled-used}
use Rattle.entries.proofs.Marks.{used-max}
use Rattle.entries.specs.Forms.{EightRows, filled}
use Rattle.rows.specs.Rows.{rows_at, rows_into}
use Rattle.rows.proofs.Flat.{Left, left-start, FlatWriting, flat_start, flat-room, flat-more, flat-skip, flat-end}
use Rattle.latest.specs.Latest.{extra_in}

-- ---- an item's rows, one after another

-- the used ones from the j-th on
abbrev pub used_from : List (List ℕ) → ℕ → List (List ℕ)
used_from rs j = used_rows (drop j rs)

pub used_start : (rs : List (List ℕ)) (k d : ℕ) (o : List ℕ) → d + length (used_rows rs) ≤ k
    → Left (used_rows rs) k d o o d (used_from rs 0)
used_start rs k d o h = left-start _ k d o h

module _ (rs : List (List ℕ)) (j : ℕ) where
  module _ (h : j < length rs) {n u p : ℕ} (e : get_or rs j [] ≡ n ∷ u ∷ p ∷ []) where
    pub used-none : n ≡ 0 → used_from rs j ≡ []
    unfolding used_rows
    used-none z = rw (drop-cons rs j [] h, e, z)

    pub used-more : (n ≡ 0 → ⊥) → used_from rs j ≡ (n ∷ u ∷ p ∷ []) ∷ used_from rs (j + 1)
    unfolding used_rows
    used-more z = rw (drop-cons rs j [] h, e, ne_eqb n 0 z, add-one j)

  pub used-end : length rs ≤ j → used_from rs j ≡ []
  unfolding used_rows
  used-end h = rw (drop_of_length-le rs {i = j} h)

-- behind as many turns as there are entries, or rows left
pub used_over : (rs : List (List ℕ)) (j k d c : ℕ) → length rs ≡ 8 → min 8 (k - d) ≤ j → c ≡ d + j
    → c + length (used_from rs j) ≤ k → used_from rs j ≡ []
used_over rs j k d c s b e f =
    by-test (leb 8 j) (λ i. used-end rs j (rw s (leb-true 8 j i)))
    (λ i. let g = leb-false 8 j i in nil_from_length _ (omega arith))

latest-few : (cat : ℕ → ℕ) (N m : ℕ) (st : List ℕ) (i : ℕ) → length (latest_rows cat N m st i) ≤ 8
latest-few cat N m st i =
    by_cond (λ x. length x ≤ 8) (is_condition cat i) _ _
    (λ e.
    let rs = item_rows st (latest_at N) m i in
    omega (arith, used-max rs, rows-many st (latest_at N) (8 * m) 8 (8 * i)))
    (λ e. omega arith)

-- ---- rows beyond the first of each

module _ (p : ℕ → Bool) (v : ℕ → List (List ℕ)) where
  extra-step : (i m : ℕ) → i < m
      → extra_rows p v (m - i) i ≡ cond (p i) (length (v i) - 1) 0 + extra_rows p v (m - (i + 1)) (i + 1)
  unfolding extra_rows
  extra-step i m h = rw (one-more i m h, add-one i)

  extra-none : (i m : ℕ) → m ≤ i → extra_rows p v (m - i) i ≡ 0
  unfolding extra_rows
  extra-none i m h = rw (none-left i m h)

  extra-most : (b n s : ℕ) → ((i : ℕ) → length (v i) ≤ suc b) → extra_rows p v n s ≤ b * n
  unfolding extra_rows
  extra-most b zero s h = omega arith
  extra-most b (suc n) s h =
      by_cond (λ x. x + extra_rows p v n (suc s) ≤ b * suc n) (p s) _ _
      (λ e. omega (arith, h s, extra-most b n (suc s) h))
      (λ e. omega (arith, extra-most b n (suc s) h))

-- those of the selected ones of m items
abbrev pub all_extra : (ℕ → ℕ) → ℕ → List ℕ → ℕ → ℕ
all_extra cat m st selection = extra_rows (bit selection) (latest_rows cat (ring_size st) m st) m 0

pub few-extra : (cat : ℕ → ℕ) (m : ℕ) (st : List ℕ) (selection : ℕ) → all_extra cat m st selection ≤ 7 * m
few-extra cat m st selection =
    extra-most (bit selection) (latest_rows cat (ring_size st) m st) 7 m 0 (latest-few cat (ring_size st) m st)

-- ---- what a count of an item's entries says of their form

module _ (own : ℕ) (rs : List (List ℕ)) where
  form-no : None ≡ filled own rs → form_ok own 1 rs ≡ false
  unfolding form_ok
  form-no e =
      let z = le-leb 0 (length (used_rows rs)) (omega arith) in
      let f = rw z at (filled-broken own rs e) in
      rw f (and-false (leb 1 (length (used_rows rs))))

  module _ {x : ℕ} (e : Some x ≡ filled own rs) where
    form-used : x ≡ length (used_rows rs)
    form-used = (filled-used own rs e).1

    form-empty : x ≡ 0 → form_ok own 1 rs ≡ false
    unfolding form_ok
    form-empty z = rw (lt-leb 1 (length (used_rows rs)) (omega (arith, form-used)))

    form-yes : (x ≡ 0 → ⊥) → form_ok own 1 rs ≡ true
    unfolding form_ok
    form-yes z =
        rw (le-leb 1 (length (used_rows rs)) (omega (arith, form-used)))
        (and_right (leb 0 (length (used_rows rs))) _ (filled-used own rs e).0)

-- ---- an item's rows in the latest table, which begins at word t and has w rows

-- the contracts' eight rows
abbrev pub eight : List ℕ → ℕ → ℕ → ℕ → List (List ℕ)
eight st t w i = table_rows st t w 8 (8 * i)

pub latest-table : {m w t : ℕ} (st : List ℕ) (i : ℕ) → Head m st → w ≡ 8 * m → t ≡ latest_at (ring_size st) → i < m
    → EightRows w t (8 * i) (length st)
latest-table st i h ew et l = record { inside = omega arith; room = omega (arith, h.len) }

module _ (st : List ℕ) (m i : ℕ) {w t : ℕ} (ew : w ≡ 8 * m) (et : t ≡ latest_at (ring_size st)) where
  eight_is : eight st t w i ≡ item_rows st (latest_at (ring_size st)) m i
  eight_is = rw (et, ew)

  condition-rows : (cat : ℕ → ℕ) → cat i ≡ 2 → latest_rows cat (ring_size st) m st i ≡ used_rows (eight st t w i)
  condition-rows cat e = rw (eight_is, eq-eqb (cat i) 2 e)

  plain_rows_lem : (cat : ℕ → ℕ) → (cat i ≡ 2 → ⊥)
      → latest_rows cat (ring_size st) m st i ≡ table_rows st t w 1 (8 * i)
  unfolding table_rows
  plain_rows_lem cat e = rw (et, ew, ne_eqb (cat i) 2 e)

-- ---- counting: c rows beyond the first of each of the items below i

-- the test of item i for the refusal Store
abbrev formed : (ℕ → ℕ) → ℕ → List ℕ → ℕ → ℕ → Bool
formed cat m st selection i =
    not (bit selection i && is_condition cat i) || form_ok i 1 (item_rows st (latest_at (ring_size st)) m i)

pub record Beyond (cat : ℕ → ℕ) (m : ℕ) (st : List ℕ) (selection c i : ℕ) : Type 0 where
  pub high : i ≤ m
  pub ok : current_ok cat (ring_size st) m st selection ≡ every (formed cat m st selection) (m - i) i
  pub rows : c + extra_rows (bit selection) (latest_rows cat (ring_size st) m st) (m - i) i
      ≡ all_extra cat m st selection

pub beyond-start : (cat : ℕ → ℕ) (m : ℕ) (st : List ℕ) (selection : ℕ) → Beyond cat m st selection 0 0
unfolding current_ok
beyond-start cat m st selection =
    let q : m - 0 ≡ m = omega arith in
    record { high = omega arith; ok = rw q; rows = rw q (omega arith) }

module _ {cat : ℕ → ℕ} {m : ℕ} {st : List ℕ} {selection c i : ℕ} (v : Beyond cat m st selection c i) where
  step : i < m → c
      + (cond (bit selection i) (length (latest_rows cat (ring_size st) m st i) - 1) 0
      + extra_rows (bit selection) (latest_rows cat (ring_size st) m st) (m - (i + 1)) (i + 1))
      ≡ all_extra cat m st selection
  step h = rw (← extra-step (bit selection) (latest_rows cat (ring_size st) m st) i m h) v.rows

  pub beyond-few : m ≤ max_items → c ≤ 448
  beyond-few h = omega (arith, v.rows, few-extra cat m st selection)

  next : {x d : ℕ} → i < m → formed cat m st selection i ≡ true
      → cond (bit selection i) (length (latest_rows cat (ring_size st) m st i) - 1) 0 ≡ x → d ≡ c + x
      → Beyond cat m st selection d (i + 1)
  next h f e g =
      record {
        high = omega arith;
        ok = every-yes (formed cat m st selection) _ i m v.ok h f;
        rows = omega (arith, step h, e, g);
      }

  broken : i < m → formed cat m st selection i ≡ false → None ≡ extra_in cat m st selection
  unfolding extra_in
  broken h f = let e = every-no (formed cat m st selection) _ i m v.ok h f in rw (← e)

  -- not selected
  pub beyond-out : i < m → bit selection i ≡ false → Beyond cat m st selection c (i + 1)
  beyond-out h s = next {x = 0} h (rw s) (rw s) (omega arith)

  -- no condition item: one row
  pub beyond-plain : i < m → bit selection i ≡ true → (cat i ≡ 2 → ⊥) → Beyond cat m st selection c (i + 1)
  beyond-plain h s e =
      let z = ne_eqb (cat i) 2 e in
      next {x = 0} h (rw (s, z)) (rw (s, z)) (omega arith)

  pub beyond-end : m ≤ i → Some c ≡ extra_in cat m st selection
  unfolding extra_in
  beyond-end h =
      let e = every-end (formed cat m st selection) _ i m v.ok h in
      let z = extra-none (bit selection) (latest_rows cat (ring_size st) m st) i m h in
      let k : c ≡ all_extra cat m st selection = omega (arith, v.rows, z) in
      rw (← e, k)

-- a turn for item i, a selected condition item
module _ {cat : ℕ → ℕ} {m : ℕ} {st : List ℕ} {selection c i w t : ℕ} (v : Beyond cat m st selection c i) (h : i < m)
    (s : bit selection i ≡ true) (e : cat i ≡ 2) (rows : w ≡ 8 * m) (at : t ≡ latest_at (ring_size st)) where
  by_form : (b : Bool) → form_ok i 1 (eight st t w i) ≡ b → formed cat m st selection i ≡ b
  by_form b f = rw (s, eq-eqb (cat i) 2 e, ← eight_is st m i rows at) f

  pub beyond-unformed : None ≡ filled i (eight st t w i) → None ≡ extra_in cat m st selection
  beyond-unformed f = broken v h (by_form false (form-no i (eight st t w i) f))

  module _ {x : ℕ} (f : Some x ≡ filled i (eight st t w i)) where
    pub beyond-empty : x ≡ 0 → None ≡ extra_in cat m st selection
    beyond-empty z = broken v h (by_form false (form-empty i (eight st t w i) f z))

    pub beyond-more : (x ≡ 0 → ⊥) → Beyond cat m st selection (c + (x - 1)) (i + 1)
    beyond-more z =
        let r = condition-rows st m i rows at cat e in
        next v h (by_form true (form-yes i (eight st t w i) f z)) (rw (s, r, form-used i (eight st t w i) f)) refl

  -- none used, or not filled
  beyond-unused : {o : Option ℕ} → o ≡ filled i (eight st t w i)
      → (o ≡ None) ⊎ ((x : ℕ) × (o ≡ Some x) × (x ≡ 0))
      → None ≡ extra_in cat m st selection
  beyond-unused f (inl n) = beyond-unformed (sym n ∙ f)
  beyond-unused f (inr n) = beyond-empty (sym n.1 ∙ f) n.2

-- the same by what the turn's calls have answered: q is what a filter has left of the count o
module _ {cat : ℕ → ℕ} {m : ℕ} {st : List ℕ} {selection c i w t k n : ℕ} {b : Bool} {o : Option ℕ}
    (v : Beyond cat m st selection c i) (h : i < m) (has : b ≡ bit selection i) (is : b ≡ true)
    (category : k ≡ cat i) (condition : k ≡ 2) (rows : w ≡ 8 * n) (many : n ≡ m) (at : t ≡ latest_at (ring_size st))
    (count : o ≡ filled i (eight st t w i)) where
  pub beyond-kept : (q : Option ℕ) {P : ℕ → Bool → Type 0} → Kept o q P → ((x : ℕ) (d : Bool) → P x d → d ≡ not (eqb x 0))
      → MatchOption q (None ≡ extra_in cat m st selection) (λ x. Beyond cat m st selection (c + (x - 1)) (i + 1))
  beyond-kept None f g =
      beyond-unused v h (told has is) (told category condition) (rw many at rows) at count (kept-none (λ x. x) o None _ f g refl)
  beyond-kept (Some x) f g =
      let y = kept-some (λ x. x) o (Some x) _ f g refl in
      beyond-more v h (told has is) (told category condition) (rw many at rows) at (sym y.0 ∙ count) y.1

-- ---- what a count says

module _ (cat : ℕ → ℕ) (m : ℕ) (st : List ℕ) (selection : ℕ) where
  pub extra-broken : None ≡ extra_in cat m st selection → current_ok cat (ring_size st) m st selection ≡ false
  unfolding extra_in
  extra-broken e = cond-none _ _ e

  module _ {c : ℕ} (e : Some c ≡ extra_in cat m st selection) where
    counts : (current_ok cat (ring_size st) m st selection ≡ true) × (c ≡ all_extra cat m st selection)
    unfolding extra_in
    counts = let s = cond_some _ _ c (sym e) in (s.0, sym s.1)

    pub extra-ok : current_ok cat (ring_size st) m st selection ≡ true
    extra-ok = counts.0

    pub extra-few : m ≤ max_items → c ≤ 448
    extra-few h = omega (arith, counts.1, few-extra cat m st selection)

    -- a row for each of the selected, and the rows counted
    pub extra-many : selection < 2 ^ m
        → ones selection + c ≡ length (current_rows cat (ring_size st) m st selection)
    extra-many h =
        let v : ℕ → List ℕ = λ i. [] in
        omega (arith, counts.1, rows-ones selection v m h, current-count cat (ring_size st) m st selection v extra-ok)

-- ---- writing

-- c of the k rows are written: those of the items below i
pub record Written (cat : ℕ → ℕ) (m : ℕ) (st : List ℕ) (selection k : ℕ) (o l : List ℕ) (c i : ℕ) : Type 0 where
  pub put : FlatWriting (bit selection) (latest_rows cat (ring_size st) m st) m k o l c i

pub written_start : (cat : ℕ → ℕ) (m : ℕ) (st : List ℕ) (selection k : ℕ) (o : List ℕ)
    → k ≡ length (current_rows cat (ring_size st) m st selection) → Written cat m st selection k o o 0 0
unfolding current_rows
written_start cat m st selection k o e = record { put = flat_start _ _ m k o e }

-- the first of a table's eight rows is its one row
pub first-of : (st : List ℕ) (t w x : ℕ) → get_or (table_rows st t w 8 x) 0 [] ∷ [] ≡ table_rows st t w 1 x
unfolding table_rows
first-of st t w x = refl

module _ {cat : ℕ → ℕ} {m : ℕ} {st : List ℕ} {selection k : ℕ} {o l : List ℕ} {c i : ℕ}
    (v : Written cat m st selection k o l c i) where
  pub written-end : m ≤ i → l ≡ rows_into o k (current_rows cat (ring_size st) m st selection)
  unfolding current_rows
  written-end h = flat-end v.put h

  pub written_out : i < m → bit selection i ≡ false → Written cat m st selection k o l c (i + 1)
  written_out h s = record { put = flat-skip v.put h s }

  module _ (h : i < m) (s : bit selection i ≡ true) {w t : ℕ} (ew : w ≡ 8 * m) (et : t ≡ latest_at (ring_size st)) where
    module _ (e : cat i ≡ 2) where
      pub entries-room : c + length (used_rows (eight st t w i)) ≤ k
      entries-room = rw (← condition-rows st m i ew et cat e) (flat-room v.put h s)

      pub entries-more : {d : ℕ} {b : List ℕ} → d ≡ c + length (used_rows (eight st t w i))
          → b ≡ rows_at l c (k + 2 * c) (used_rows (eight st t w i)) → Written cat m st selection k o b d (i + 1)
      entries-more ed eb =
          let r = condition-rows st m i ew et cat e in
          record { put = rw (ed, ← r) (flat-more v.put h s (rw r eb)) }

    module _ (e : cat i ≡ 2 → ⊥) where
      one : length (latest_rows cat (ring_size st) m st i) ≡ 1
      one = rw (ne_eqb (cat i) 2 e)

      pub first-room : c < k
      first-room = omega (arith, flat-room v.put h s, one)

      pub first_more : {b : List ℕ} → b ≡ rows_at l c (k + 2 * c) (table_rows st t w 1 (8 * i))
          → Written cat m st selection k o b (c + 1) (i + 1)
      first_more {b} eb =
          let r : b ≡ rows_at l c (k + 2 * c) (latest_rows cat (ring_size st) m st i) =
          rw (plain_rows_lem st m i ew et cat e) eb in
          record { put = rw one at (flat-more v.put h s r) }
