-- Laws of loops that write rows: one row at a time from a list, or a number's rows at a time, any number of rows each.
use Prim.Native.Nat.{ℕ, zero, suc, ◌+◌, ◌-◌, ◌*◌, ◌≤◌, ◌<◌}
use mathlib.Core.Path.{◌≡◌, refl, sym, ap, ◌∙◌}
use mathlib.Core.Bool.{Bool, true, false}
use mathlib.Core.List.{List, [], ◌∷◌, ◌++◌}
use native.Mathlib.Numerals.{add-one}
use native.Mathlib.Omega.{arith}
use lib.ListN.{length, length-append}
use Rattle.spec.specs.Blocks.{flat_rows}
use Rattle.spec.specs.Reply.{numbers, pairs}
use Rattle.spec.proofs.Words.{by-test, one-more, none-left}
use Rattle.rows.specs.Rows.{rows_at, rows_into}
use Rattle.rows.proofs.Writing.{rows_more, rows_append, length-rows}

-- ---- a list's rows, one at a time: `left` of rs are to be written yet, the next one to word c; the first went to d
pub record Left (rs : List (List ℕ)) (k d : ℕ) (o l : List ℕ) (c : ℕ) (left : List (List ℕ)) : Type 0 where
  pub rows : c + length left ≡ d + length rs
  pub fits : c + length left ≤ k
  pub len : length l ≡ length o
  pub all : rows_at o d (k + 2 * d) rs ≡ rows_at l c (k + 2 * c) left

pub left-start : (rs : List (List ℕ)) (k d : ℕ) (o : List ℕ) → d + length rs ≤ k → Left rs k d o o d rs
left-start rs k d o h = record { rows = refl; fits = h; len = refl; all = refl }

module _ {rs : List (List ℕ)} {k d : ℕ} {o l : List ℕ} {c : ℕ} {left : List (List ℕ)}
    (v : Left rs k d o l c left) where
  module _ {r : List ℕ} {rest : List (List ℕ)} (e : left ≡ r ∷ rest) where
    pub left-room : 3 * k ≤ length o → k + 2 * c + 1 < length l
    left-room h = omega (arith, v.fits, v.len, ap length e)

    pub left-more : {b : List ℕ} → b ≡ rows_at l c (k + 2 * c) (r ∷ []) → Left rs k d o b (c + 1) rest
    left-more {b} eb =
        let n = ap length e in
        let q : k + 2 * (c + 1) ≡ k + 2 * c + 2 = omega arith in
        record {
          rows = omega (arith, v.rows);
          fits = omega (arith, v.fits);
          len = rw eb (length-rows l c (k + 2 * c) (r ∷ []) ∙ v.len);
          all =
              v.all
              ∙ (ap (rows_at l c (k + 2 * c)) e
              ∙ rw (eb, q) (rows_more l c (k + 2 * c) r rest (omega (arith, v.fits))));
        }

  pub left_end : left ≡ [] → (c ≡ d + length rs) × (l ≡ rows_at o d (k + 2 * d) rs)
  unfolding numbers pairs
  left_end e = (omega (arith, v.rows, ap length e), sym (v.all ∙ ap (rows_at l c (k + 2 * c)) e))

-- ---- the numbers from i on, of m: one more, or none

module _ (p : ℕ → Bool) (v : ℕ → List (List ℕ)) (i m : ℕ) where
  pub flat_in : i < m → p i ≡ true → flat_rows p v (m - i) i ≡ v i ++ flat_rows p v (m - (i + 1)) (i + 1)
  unfolding flat_rows
  flat_in h t = rw (one-more i m h, add-one i, t)

  pub flat_out : i < m → p i ≡ false → flat_rows p v (m - i) i ≡ flat_rows p v (m - (i + 1)) (i + 1)
  unfolding flat_rows
  flat_out h t = rw (one-more i m h, add-one i, t)

  pub flat-none : m ≤ i → flat_rows p v (m - i) i ≡ []
  unfolding flat_rows
  flat-none h = rw (none-left i m h)

-- ---- a loop that writes the rows of m numbers: the k rows' first c are those of the numbers below i
pub record FlatWriting (p : ℕ → Bool) (v : ℕ → List (List ℕ)) (m k : ℕ) (o l : List ℕ) (c i : ℕ) : Type 0 where
  pub high : i ≤ m
  pub rows : c + length (flat_rows p v (m - i) i) ≡ k
  pub len : length l ≡ length o
  pub all : rows_into o k (flat_rows p v m 0) ≡ rows_at l c (k + 2 * c) (flat_rows p v (m - i) i)

pub flat_start : (p : ℕ → Bool) (v : ℕ → List (List ℕ)) (m k : ℕ) (o : List ℕ) → k ≡ length (flat_rows p v m 0)
    → FlatWriting p v m k o o 0 0
flat_start p v m k o h =
    let q : m - 0 ≡ m = omega arith in
    let z : k + 2 * 0 ≡ k = omega arith in
    record { high = omega arith; rows = rw q (omega arith); len = refl; all = rw (q, z) }

module _ {p : ℕ → Bool} {v : ℕ → List (List ℕ)} {m k : ℕ} {o l : List ℕ} {c i : ℕ}
    (w : FlatWriting p v m k o l c i) where
  module _ (h : i < m) (t : p i ≡ true) where
    sizes : length (flat_rows p v (m - i) i) ≡ length (v i) + length (flat_rows p v (m - (i + 1)) (i + 1))
    sizes = ap length (flat_in p v i m h t) ∙ length-append (v i) (flat_rows p v (m - (i + 1)) (i + 1))

    -- there is room for a number's rows
    pub flat-room : c + length (v i) ≤ k
    flat-room = omega (arith, w.rows, sizes)

    pub flat-more : {b : List ℕ} → b ≡ rows_at l c (k + 2 * c) (v i)
        → FlatWriting p v m k o b (c + length (v i)) (i + 1)
    flat-more {b} e =
        let rest = flat_rows p v (m - (i + 1)) (i + 1) in
        let q : k + 2 * (c + length (v i)) ≡ k + 2 * c + 2 * length (v i) = omega arith in
        record {
          high = omega arith;
          rows = omega (arith, w.rows, sizes);
          len = rw e (length-rows l c (k + 2 * c) (v i) ∙ w.len);
          all =
              w.all
              ∙ (ap (rows_at l c (k + 2 * c)) (flat_in p v i m h t)
              ∙ rw (e, q) (sym (rows_append l c (k + 2 * c) (v i) rest (omega (arith, w.rows, sizes)))));
        }

  pub flat-skip : i < m → p i ≡ false → FlatWriting p v m k o l c (i + 1)
  flat-skip h t =
      let g = flat_out p v i m h t in
      record {
        high = omega arith;
        rows = omega (arith, w.rows, ap length g);
        len = w.len;
        all = w.all ∙ ap (rows_at l c (k + 2 * c)) g;
      }

  pub flat-end : m ≤ i → l ≡ rows_into o k (flat_rows p v m 0)
  unfolding numbers pairs
  flat-end h = sym (w.all ∙ ap (rows_at l c (k + 2 * c)) (flat-none p v i m h))

-- ---- rows that agree where they are picked

pub flat-same : (p : ℕ → Bool) (v u : ℕ → List (List ℕ)) (n s : ℕ)
    → ((i : ℕ) → s ≤ i → i < s + n → p i ≡ true → v i ≡ u i) → flat_rows p v n s ≡ flat_rows p u n s
unfolding flat_rows
flat-same p v u zero s f = refl
flat-same p v u (suc n) s f =
    let q = flat-same p v u n (suc s) (λ i h g. f i (omega arith) (omega arith)) in
    by-test (p s) (λ t. rw (t, f s (omega arith) (omega arith) t, q)) (λ t. rw (t, q))
