-- The check of names: by the cells, once their bytes are right.
use Prim.Native.Nat.{ℕ, zero, suc, ◌*◌, ◌/◌, ◌%◌, ◌≤◌, ◌<◌}
use mathlib.Core.Path.{◌≡◌, refl, sym, ap, ◌∙◌}
use mathlib.Core.Bool.{Bool, true, false, ◌&&◌, false≢true}
use mathlib.Core.List.{List}
use native.Mathlib.Nat.{div-add-mod}
use native.Mathlib.Omega.{arith}
use lib.ListN.{length, take, drop}
use lib.Seq.{drop-drop}
use borrow.Author.Tests.{le-leb, eq-eqb}
use Rattle.std.specs.List.{list_all}
use Rattle.std.specs.Simd.{first_chunks}
use Rattle.spec.specs.Words.{every}
use Rattle.spec.specs.Model.{name_bytes, max_names, cell_ok, name_cell, names_ok}
use Rattle.spec.proofs.Words.{not_so, every-at, every_of}
use Rattle.std.specs.Cmp.{both_ways}
use Rattle.spec.proofs.Model.{Names, names_of}
use Rattle.names.specs.Cells.{cell_bytes, zeros_last}
use Rattle.names.proofs.CellLaws.{every-on, cell-by-zeros, names-bytes}

pub no_names : (names : List ℕ) → (Names names → ⊥) → false ≡ names_ok names
no_names names h = not_so (names_ok names) (λ e. h (names_of names e))

-- names that are refused for a byte
pub no-bytes : (names : List ℕ) → cell_bytes names ≡ false → false ≡ names_ok names
no-bytes names e = no_names names (λ h. false≢true (sym e ∙ names-bytes names h))

-- a test of each chunk
chunks-all : (q : List ℕ → Bool) (n k : ℕ) (xs : List ℕ)
    → list_all q (first_chunks n k xs) ≡ every (λ i. q (take n (drop (n * i) xs))) k 0
unfolding every
chunks-all q n zero xs = refl
chunks-all q n (suc k) xs =
    let z : n * 0 ≡ 0 = omega arith in
    let next : (i : ℕ) → q (take n (drop (n * suc i) xs)) ≡ q (take n (drop (n * i) (drop n xs))) =
    λ i. rw (drop-drop (n * i) n xs) (ap (λ (j : ℕ). q (take n (drop j xs))) (omega arith)) in
    rw (z, chunks-all q n k (drop n xs))
    (ap (λ (b : Bool). q (take n xs) && b)
    (sym (every-on (λ i. q (take n (drop (n * i) xs))) (λ i. q (take n (drop (n * i) (drop n xs)))) next k 0)))

-- behind the bytes the cells decide
pub cells-decide : (names : List ℕ) → length names % name_bytes ≡ 0 → 1 ≤ length names / name_bytes
    → length names / name_bytes ≤ max_names → cell_bytes names ≡ true
    → list_all zeros_last (first_chunks name_bytes (length names / name_bytes) names) ≡ names_ok names
unfolding names_ok
cells-decide names e a b t =
    let n = length names / name_bytes in
    let d = div-add-mod (length names) name_bytes in
    let is : (i : ℕ) → i < n → zeros_last (name_cell names i) ≡ cell_ok (name_cell names i) =
    λ i h. cell-by-zeros names i h t in
    let both =
    both_ways (every (λ i. zeros_last (name_cell names i)) n 0) (every (λ i. cell_ok (name_cell names i)) n 0)
    (λ g. every_of _ n 0 (λ i h l. sym (is i (omega arith)) ∙ every-at _ n 0 i g h l))
    (λ g. every_of _ n 0 (λ i h l. is i (omega arith) ∙ every-at _ n 0 i g h l)) in
    rw (le-leb 1 (length names) (omega arith), le-leb (length names) (name_bytes * max_names) (omega arith), eq-eqb _ _ e)
    (chunks-all zeros_last name_bytes n names ∙ both)
