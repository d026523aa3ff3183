-- Rows side by side in a table after they are overwritten: read back, other rows, other tables and words; and rows of
-- H with unused ones behind.
use mathlib.Core.Path.{◌≡◌, refl, sym, ap, ◌∙◌}
use mathlib.Core.Logic.{◌⊎◌, inl, inr}
use mathlib.Core.Bool.{Bool, true, false, cond}
use Prim.Native.Nat.{ℕ, zero, suc, ◌+◌, ◌-◌, ◌*◌, ◌≤◌, ◌<◌}
use native.Mathlib.Omega.{arith}
use mathlib.Core.List.{List, [], ◌∷◌, ◌++◌}
use lib.ListN.{length, get_or, drop, length-append}
use borrow.Author.Tests.{ne_eqb}
use Rattle.std.specs.List.{AllByRecursion as Each}
use Rattle.spec.specs.Words.{pick_rows, row, put}
use Rattle.spec.specs.Blocks.{table_rows, put_rows, padded, flat_rows, extra_rows}
use Rattle.spec.specs.Entries.{each_row, used_rows, zero_row}
use Rattle.spec.proofs.Tables.{length-put, get-put, row-put-same, row-put-other, row-put-apart}

-- each row has three words
abbrev pub Threes : List (List ℕ) → Type 0
Threes = Each (λ r. length r ≡ 3)

pub length-put-rows : (rs : List (List ℕ)) (st : List ℕ) (b w k : ℕ) → length (put_rows st b w k rs) ≡ length st
unfolding put_rows
length-put-rows [] st b w k = refl
length-put-rows (r ∷ rs) st b w k = length-put-rows rs (put st b w k r) b w (suc k) ∙ length-put r st b w k

-- a word outside the table
pub get-put-rows : (rs : List (List ℕ)) (st : List ℕ) (b w k j : ℕ) → Threes rs → k + length rs ≤ w
    → (j < b) ⊎ (b + 3 * w ≤ j)
    → get_or (put_rows st b w k rs) j 0 ≡ get_or st j 0
unfolding put_rows
get-put-rows [] st b w k j t h o = refl
get-put-rows (r ∷ rs) st b w k j t h o =
    get-put-rows rs (put st b w k r) b w (suc k) j t.1 (omega arith) o
    ∙ get-put r st b w k j (rw t.0 o) (omega arith)

-- a row of another table
pub row-put-rows-apart : (rs : List (List ℕ)) (st : List ℕ) (b w k b' w' j c : ℕ) → Threes rs → k + length rs ≤ w
    → j < w'
    → (b' + c * w' ≤ b) ⊎ (b + 3 * w ≤ b') → row (put_rows st b w k rs) b' w' j c ≡ row st b' w' j c
unfolding put_rows
row-put-rows-apart [] st b w k b' w' j c t h l o = refl
row-put-rows-apart (r ∷ rs) st b w k b' w' j c t h l o =
    row-put-rows-apart rs (put st b w k r) b w (suc k) b' w' j c t.1 (omega arith) l o
    ∙ row-put-apart r st b w k b' w' j c (omega arith) l (rw t.0 o)

-- another row of the same table
pub row-put-rows-other : (rs : List (List ℕ)) (st : List ℕ) (b w k j c : ℕ) → k + length rs ≤ w → j < w
    → (j < k) ⊎ (k + length rs ≤ j)
    → row (put_rows st b w k rs) b w j c ≡ row st b w j c
unfolding put_rows
row-put-rows-other [] st b w k j c h l o = refl
row-put-rows-other (r ∷ rs) st b w k j c h l (inl o) =
    row-put-rows-other rs (put st b w k r) b w (suc k) j c (omega arith) l (inl (omega arith))
    ∙ row-put-other r st b w k j c (omega arith) l (omega arith)
row-put-rows-other (r ∷ rs) st b w k j c h l (inr o) =
    row-put-rows-other rs (put st b w k r) b w (suc k) j c (omega arith) l (inr (omega arith))
    ∙ row-put-other r st b w k j c (omega arith) l (omega arith)

-- rows whose single rows agree
pub table-rows-ext : (st st' : List ℕ) (b w n k : ℕ) → ((j : ℕ) → k ≤ j → j < k + n → row st b w j 3 ≡ row st' b w j 3)
    → table_rows st b w n k ≡ table_rows st' b w n k
unfolding table_rows
table-rows-ext st st' b w zero k h = refl
table-rows-ext st st' b w (suc n) k h =
    rw (
      h k (omega arith) (omega arith),
      table-rows-ext st st' b w n (suc k) (λ j l g. h j (omega arith) (omega arith)),
    )

-- the rows themselves
pub table-rows-same : (rs : List (List ℕ)) (st : List ℕ) (b w k : ℕ) → Threes rs → k + length rs ≤ w
    → b + 3 * w ≤ length st
    → table_rows (put_rows st b w k rs) b w (length rs) k ≡ rs
unfolding table_rows put_rows
table-rows-same [] st b w k t h f = refl
table-rows-same (r ∷ rs) st b w k t h f =
    let e : row (put st b w k r) b w k 3 ≡ r =
    ap (row (put st b w k r) b w k) (sym t.0) ∙ row-put-same r st b w k (omega arith) (rw t.0 f) in
    rw (
      row-put-rows-other rs (put st b w k r) b w (suc k) k 3 (omega arith) (omega arith) (inl (omega arith)),
      e,
      table-rows-same rs (put st b w k r) b w (suc k) t.1 (omega arith) (omega (arith, length-put r st b w k)),
    )

-- other rows of the same table, and rows of another one
module _ (rs : List (List ℕ)) (st : List ℕ) (b w k : ℕ) (t : Threes rs) (h : k + length rs ≤ w) where
  pub table-rows-other : (n j : ℕ) → j + n ≤ w → (j + n ≤ k) ⊎ (k + length rs ≤ j)
      → table_rows (put_rows st b w k rs) b w n j ≡ table_rows st b w n j
  table-rows-other n j f (inl o) =
      table-rows-ext _ st b w n j (λ i l g. row-put-rows-other rs st b w k i 3 h (omega arith) (inl (omega arith)))
  table-rows-other n j f (inr o) =
      table-rows-ext _ st b w n j (λ i l g. row-put-rows-other rs st b w k i 3 h (omega arith) (inr (omega arith)))

  pub table-rows-apart : (b' w' n j : ℕ) → j + n ≤ w' → (b' + 3 * w' ≤ b) ⊎ (b + 3 * w ≤ b')
      → table_rows (put_rows st b w k rs) b' w' n j ≡ table_rows st b' w' n j
  table-rows-apart b' w' n j f o =
      table-rows-ext _ st b' w' n j (λ i l g. row-put-rows-apart rs st b w k b' w' i 3 t h (omega arith) o)

-- ---- padded

pub length-padded : (n : ℕ) (rs : List (List ℕ)) → length (padded n rs) ≡ n
unfolding padded
length-padded zero rs = refl
length-padded (suc n) [] = ap suc (length-padded n [])
length-padded (suc n) (r ∷ rs) = ap suc (length-padded n rs)

pub padded-threes : (n : ℕ) (rs : List (List ℕ)) → Threes rs → Threes (padded n rs)
unfolding padded
padded-threes zero rs t = tt
padded-threes (suc n) [] t = (refl, padded-threes n [] tt)
padded-threes (suc n) (r ∷ rs) t = (t.0, padded-threes n rs t.1)

-- each row's number isn't 0
abbrev pub Given : List (List ℕ) → Type 0
Given = Each (λ r. 0 < get_or r 0 0)

-- what is used of padded rows
pub used-padded : (n : ℕ) (rs : List (List ℕ)) → Given rs → length rs ≤ n → used_rows (padded n rs) ≡ rs
unfolding used_rows padded
used-padded zero [] g h = refl
used-padded (suc n) [] g h = refl
used-padded zero (r ∷ rs) g h = absurd (omega arith)
used-padded (suc n) (r ∷ rs) g h =
    rw (ne_eqb (get_or r 0 0) 0 (omega (arith, g.0)), used-padded n rs g.1 (omega arith))

-- the unused rows behind
pub padded-zeros : (n : ℕ) (rs : List (List ℕ)) → each_row zero_row (drop (length rs) (padded n rs)) ≡ true
unfolding each_row padded
padded-zeros zero [] = refl
padded-zeros zero (r ∷ rs) = refl
padded-zeros (suc n) [] = padded-zeros n []
padded-zeros (suc n) (r ∷ rs) = padded-zeros n rs

-- ---- flat_rows

pub flat-ext : (p : ℕ → Bool) (v w : ℕ → List (List ℕ)) (n s : ℕ) → ((i : ℕ) → s ≤ i → i < s + n → v i ≡ w i)
    → flat_rows p v n s ≡ flat_rows p w n s
unfolding flat_rows
flat-ext p v w zero s h = refl
flat-ext p v w (suc n) s h =
    rw (h s (omega arith) (omega arith), flat-ext p v w n (suc s) (λ i l g. h i (omega arith) (omega arith)))

-- one row each
pub flat-single : (p : ℕ → Bool) (v : ℕ → List ℕ) (n s : ℕ) → flat_rows p (λ i. v i ∷ []) n s ≡ pick_rows p v n s
unfolding flat_rows pick_rows
flat-single p v zero s = refl
flat-single p v (suc n) s = rw (flat-single p v n (suc s))

-- where each has a row, there is one row for each and the extra ones
pub flat-length : (p : ℕ → Bool) (v : ℕ → List (List ℕ)) (w : ℕ → List ℕ) (n s : ℕ)
    → ((i : ℕ) → s ≤ i → i < s + n → p i ≡ true → 1 ≤ length (v i))
    → length (flat_rows p v n s) ≡ length (pick_rows p w n s) + extra_rows p v n s
unfolding flat_rows pick_rows extra_rows
flat-length p v w zero s h = refl
flat-length p v w (suc n) s h = go (p s) refl (flat-length p v w n (suc s) (λ i l g. h i (omega arith) (omega arith)))
  where
    go : (t : Bool) → p s ≡ t
        → length (flat_rows p v n (suc s)) ≡ length (pick_rows p w n (suc s)) + extra_rows p v n (suc s)
        → length (cond t (v s ++ flat_rows p v n (suc s)) (flat_rows p v n (suc s)))
        ≡ length (cond t (w s ∷ pick_rows p w n (suc s)) (pick_rows p w n (suc s)))
        + (cond t (length (v s) - 1) 0 + extra_rows p v n (suc s))
    go true e ih = omega (arith, length-append (v s) (flat_rows p v n (suc s)), h s (omega arith) (omega arith) e)
    go false e ih = omega arith
