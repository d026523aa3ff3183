-- Rows of a table by their columns: rows put are three runs of words stored, and rows read are three runs read.
use Prim.Native.Nat.{ℕ, zero, suc, ◌+◌, ◌*◌, ◌≤◌}
use mathlib.Core.Path.{◌≡◌, refl, ap, ◌∙◌}
use mathlib.Core.List.{List, [], ◌∷◌, map}
use native.Mathlib.Omega.{arith}
use lib.ListN.{length, get_or, set, take, drop, length-map}
use lib.Seq.{sets, drop-set-lt, drop-cons}
use Rattle.spec.specs.Words.{row, put}
use Rattle.spec.specs.Blocks.{table_rows, put_rows}
use Rattle.spec.proofs.Blocks.{Threes}
use Rattle.spec.proofs.Written.{sets-set}

-- the words of a column, row by row
abbrev pub column : ℕ → List (List ℕ) → List ℕ
column c rs = map (λ r. get_or r c 0) rs

-- ---- runs of stores

-- the words behind a run are as they were
pub drop-sets : (vs l : List ℕ) (i j : ℕ) → i + length vs ≤ j → drop j (sets l i vs) ≡ drop j l
drop-sets [] l i j h = refl
drop-sets (v ∷ vs) l i j h = drop-sets vs (set l i v) (suc i) j (omega arith) ∙ drop-set-lt j l i v (omega arith)

-- ---- rows put, by columns

put_first : (r st : List ℕ) (t w k : ℕ) → length r ≡ 3
    → put st t w k r ≡ set (set (set st (t + k) (get_or r 0 0)) (t + w + k) (get_or r 1 0)) (t + w + w + k) (get_or r 2 0)
unfolding put
put_first [] st t w k h = absurd (omega arith)
put_first (x ∷ []) st t w k h = absurd (omega arith)
put_first (x ∷ y ∷ []) st t w k h = absurd (omega arith)
put_first (x ∷ y ∷ z ∷ []) st t w k h = refl
put_first (x ∷ y ∷ z ∷ u ∷ r) st t w k h = absurd (omega arith)

-- three runs of stores behind three stores, each behind its own
module _ (st : List ℕ) (a b c x y z : ℕ) (xs ys zs : List ℕ) (n : ℕ) (lx : length xs ≡ n) (ly : length ys ≡ n) where
  three-runs : suc a + n ≤ b → suc b + n ≤ c
      → sets (sets (sets (set (set (set st a x) b y) c z) (suc a) xs) (suc b) ys) (suc c) zs
      ≡ sets (sets (sets st a (x ∷ xs)) b (y ∷ ys)) c (z ∷ zs)
  three-runs h g =
      let p : sets (set (set (set st a x) b y) c z) (suc a) xs ≡ set (set (sets (set st a x) (suc a) xs) b y) c z =
      sets-set xs (set (set st a x) b y) (suc a) c z (omega arith)
      ∙ ap (λ (l : List ℕ). set l c z) (sets-set xs (set st a x) (suc a) b y (omega arith)) in
      ap (λ (l : List ℕ). sets l (suc c) zs)
      (ap (λ (l : List ℕ). sets l (suc b) ys) p
      ∙ sets-set ys (set (sets (set st a x) (suc a) xs) b y) (suc b) c z (omega arith))

pub length-column : (c : ℕ) (rs : List (List ℕ)) → length (column c rs) ≡ length rs
length-column c rs = length-map rs (λ r. get_or r c 0)

-- rows put are their columns stored
pub put-columns : (rs : List (List ℕ)) (st : List ℕ) (t w k : ℕ) → Threes rs → k + length rs ≤ w
    → put_rows st t w k rs
    ≡ sets (sets (sets st (t + k) (column 0 rs)) (t + w + k) (column 1 rs)) (t + w + w + k) (column 2 rs)
unfolding put_rows
put-columns [] st t w k three h = refl
put-columns (r ∷ rs) st t w k three h =
    let e : t + suc k ≡ suc (t + k) = omega arith in
    let f : t + w + suc k ≡ suc (t + w + k) = omega arith in
    let g : t + w + w + suc k ≡ suc (t + w + w + k) = omega arith in
    put-columns rs (put st t w k r) t w (suc k) three.1 (omega arith)
    ∙ (rw (e, f, g, put_first r st t w k three.0)
    (three-runs st (t + k) (t + w + k) (t + w + w + k) (get_or r 0 0) (get_or r 1 0) (get_or r 2 0)
    (column 0 rs) (column 1 rs) (column 2 rs) (length rs) (length-column 0 rs) (length-column 1 rs)
    (omega arith) (omega arith)))

-- ---- rows read, by columns

-- a run of words is what stands at its places
pub run-words : (n : ℕ) (st : List ℕ) (i : ℕ) → i + suc n ≤ length st
    → take (suc n) (drop i st) ≡ get_or st i 0 ∷ take n (drop (suc i) st)
run-words n st i h = rw (drop-cons st i 0 (omega arith))

module _ (st : List ℕ) (t w : ℕ) where
  -- column c begins at word b
  column-run : (c b : ℕ) → ((j : ℕ) → get_or (row st t w j 3) c 0 ≡ get_or st (b + j) 0)
      → (n k : ℕ) → b + k + n ≤ length st → column c (table_rows st t w n k) ≡ take n (drop (b + k) st)
  unfolding table_rows
  column-run c b f zero k h = refl
  column-run c b f (suc n) k h =
      let e : b + suc k ≡ suc (b + k) = omega arith in
      rw (run-words n st (b + k) h, f k, column-run c b f n (suc k) (omega arith), e)

  module _ (n k : ℕ) (inside : k + n ≤ w) (room : t + 3 * w ≤ length st) where
    pub numbers-read : column 0 (table_rows st t w n k) ≡ take n (drop (t + k) st)
    unfolding row
    numbers-read = column-run 0 t (λ j. refl) n k (omega arith)

    pub times-read : column 1 (table_rows st t w n k) ≡ take n (drop (t + w + k) st)
    unfolding row
    times-read = column-run 1 (t + w) (λ j. refl) n k (omega arith)

    pub words-read : column 2 (table_rows st t w n k) ≡ take n (drop (t + w + w + k) st)
    unfolding row
    words-read = column-run 2 (t + w + w) (λ j. refl) n k (omega arith)
