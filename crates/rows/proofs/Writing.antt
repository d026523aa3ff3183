-- Laws of rows written into a buffer: one more, two parts, and the buffer's length.
use Prim.Native.Nat.{ℕ, suc, ◌+◌, ◌*◌, ◌≤◌}
use mathlib.Core.Path.{◌≡◌, sym, ap, ◌∙◌}
use mathlib.Core.List.{List, [], ◌∷◌, ◌++◌}
use native.Mathlib.Numerals.{add-one}
use native.Mathlib.Omega.{arith}
use lib.ListN.{length, get_or, set, length-append}
use lib.Seq.{sets, length-sets}
use Rattle.spec.specs.Reply.{numbers, pairs}
use Rattle.rows.specs.Rows.{rows_at}
use Rattle.spec.proofs.Reply.{length-numbers}
use Rattle.spec.proofs.Written.{sets-set}

-- one row, then the others
pub rows_more : (l : List ℕ) (c a : ℕ) (r : List ℕ) (rs : List (List ℕ)) → c + 1 + length rs ≤ a
    → rows_at l c a (r ∷ rs) ≡ rows_at (rows_at l c a (r ∷ [])) (c + 1) (a + 2) rs
unfolding numbers pairs
rows_more l c a r rs h =
    let q : a + 2 ≡ suc (suc a) = omega arith in
    let n = length-numbers rs in
    rw (q, add-one c)
    (ap (λ (y : List ℕ). sets y (suc (suc a)) (pairs rs))
    (sym
    (sets-set (numbers rs) (set (set l c (get_or r 0 0)) a (get_or r 1 0)) (suc c) (suc a) (get_or r 2 0) (omega arith)
    ∙ ap (λ (y : List ℕ). set y (suc a) (get_or r 2 0))
    (sets-set (numbers rs) (set l c (get_or r 0 0)) (suc c) a (get_or r 1 0) (omega arith)))))

-- rows in two parts
pub rows_append : (l : List ℕ) (c a : ℕ) (xs ys : List (List ℕ)) → c + length xs + length ys ≤ a
    → rows_at (rows_at l c a xs) (c + length xs) (a + 2 * length xs) ys ≡ rows_at l c a (xs ++ ys)
unfolding numbers pairs
rows_append l c a [] ys h =
    let q : c + 0 ≡ c = omega arith in
    let r : a + 2 * 0 ≡ a = omega arith in
    rw (q, r)
rows_append l c a (x ∷ xs) ys h =
    let n = length-append xs ys in
    let q : c + suc (length xs) ≡ c + 1 + length xs = omega arith in
    let r : a + 2 * suc (length xs) ≡ a + 2 + 2 * length xs = omega arith in
    rw (q, r)
    (ap (λ (y : List ℕ). rows_at y (c + 1 + length xs) (a + 2 + 2 * length xs) ys) (rows_more l c a x xs (omega arith))
    ∙ (rows_append (rows_at l c a (x ∷ [])) (c + 1) (a + 2) xs ys (omega arith)
    ∙ sym (rows_more l c a x (xs ++ ys) (omega arith))))

pub length-rows : (l : List ℕ) (c a : ℕ) (rs : List (List ℕ)) → length (rows_at l c a rs) ≡ length l
length-rows l c a rs = length-sets (sets l c (numbers rs)) a (pairs rs) ∙ length-sets l c (numbers rs)
