-- Which bytes pass in a name: document 02, Req 03. Of the code, the test that the pass over all names makes of a byte,
-- without a branch; and of what `cells::names_ok` promises, any byte of a name exchanged for another.
use Prim.Native.Nat.{ℕ, zero, suc, ◌+◌, ◌-◌, ◌*◌, ◌/◌, ◌%◌, ◌<◌, ◌≤◌}
use mathlib.Core.Path.{◌≡◌, refl, sym, ap, ap₂, fun_ext, ◌∙◌}
use mathlib.Core.Bool.{Bool, true, false, ◌&&◌, ◌||◌, not, or-false, true≢false}
use mathlib.Core.List.{List, ◌++◌}
use native.Mathlib.Omega.{arith}
use lib.Dec.{leb, ltb, eqb, eqb-suc-zero}
use lib.ListN.{length, get_or, set, drop, length-set, get_or-eq_default}
use lib.Seq.{get_or-set_same, get_or-set_other}
use borrow.Author.Tests.{eq-eqb, ne_eqb, eqb-true, eqb-false, ltb-true, ltb-false, le-leb}
use Rattle.spec.specs.Words.{every}
use Rattle.spec.specs.Bytes.{name_byte}
use Rattle.spec.specs.Model.{name_bytes, max_names, name_count, name_cell, cell_ok, names_ok}
use Rattle.spec.proofs.Words.{and_right, not_so, every-at, every_of}
use Rattle.std.proofs.lemmas.Bool.{and_from}
use Rattle.spec.proofs.Bytes.{among, inside, name_runs, name-at}
use Rattle.spec.proofs.Model.{Names, names_of}
use Rattle.scan.proofs.Classes.{Returns, returns-by}
use Rattle.names.specs.Cells.{cell_byte, cell_bytes, follows, zeros_last}
use Rattle.names.proofs.CellLaws.{name-in-cell, rest-name, names-bytes}
use Rattle.names.proofs.CellLaws.{cell-is, cell-length, cell-byte-at, bytes-in-cell}
use Rattle.names.proofs.cell_byte.Symbol.{code as cell-code, name as cell-name}
use Rattle.names.proofs.cell_byte.Met as cell

-- ---- the test of a byte

-- 0, or a byte of a name
abbrev pub cell_runs : List Bool
cell_runs = inside 1 ++ drop 1 name_runs

cell-class : (x : ℕ) → cell_byte x ≡ among cell_runs x
unfolding cell_byte name_byte
cell-class zero = refl
cell-class (suc x) = rw (eqb-suc-zero x, or-false) (name-at (suc x))

pub classes : {M : Type 1} → Returns M cell-code cell-name (among cell_runs)
classes = returns-by cell-code cell-name cell-class cell.met

-- ---- a byte of the names

-- the zeros stand last by where they stand, whatever the other bytes are
last-by-zeros : (s t : List ℕ) → length s ≡ length t → ((j : ℕ) → eqb (get_or s j 0) 0 ≡ eqb (get_or t j 0) 0)
    → zeros_last s ≡ zeros_last t
unfolding zeros_last follows
last-by-zeros s t l z =
    ap₂ ◌&&◌ (ap not (z 0))
    (ap₂ (λ (p : ℕ → Bool) (n : ℕ). every p n 0)
    (fun_ext (λ j. ap₂ (λ (a b : Bool). not a || b) (z j) (z (j + 1))))
    (ap (λ (n : ℕ). n - 1) l))

module _ (names : List ℕ) (i x : ℕ) (ok : names_ok names ≡ true) (there : i < length names) where
  abbrev changed : List ℕ
  changed = set names i x

  abbrev ns : Names names
  ns = names_of names ok

  count_kept : name_count changed ≡ name_count names
  count_kept = ap (λ (l : ℕ). l / name_bytes) (length-set names i x)

  module _ (named : 1 ≤ get_or names i 0) (some : 1 ≤ x) where
    zero-kept : (j : ℕ) → eqb (get_or changed j 0) 0 ≡ eqb (get_or names j 0) 0
    zero-kept j = go (eqb j i) refl
      where
        go : (t : Bool) → eqb j i ≡ t → eqb (get_or changed j 0) 0 ≡ eqb (get_or names j 0) 0
        go true e =
            rw (eqb-true j i e, get_or-set_same names i x 0 there)
            (ne_eqb x 0 (λ q. omega arith) ∙ sym (ne_eqb (get_or names i 0) 0 (λ q. omega arith)))
        go false e = rw (get_or-set_other names i j x 0 (eqb-false j i e))

    module _ (k : ℕ) (within : k < name_count names) where
      abbrev within' : k < name_count changed
      within' = omega (arith, count_kept)

      zero-in-cell : (j : ℕ) → eqb (get_or (name_cell changed k) j 0) 0 ≡ eqb (get_or (name_cell names k) j 0) 0
      zero-in-cell j = go (ltb j name_bytes) refl
        where
          go : (t : Bool) → ltb j name_bytes ≡ t
              → eqb (get_or (name_cell changed k) j 0) 0 ≡ eqb (get_or (name_cell names k) j 0) 0
          go true e =
              let h = ltb-true j name_bytes e in
              rw (cell-byte-at changed k within' j h, cell-byte-at names k within j h)
              (zero-kept (name_bytes * k + j))
          go false e =
              let h = ltb-false j name_bytes e in
              rw (
                get_or-eq_default (name_cell changed k) 0 {n = j} (omega (arith, cell-length changed k within')),
                get_or-eq_default (name_cell names k) 0 {n = j} (omega (arith, cell-length names k within)),
              )

      last-kept : zeros_last (name_cell changed k) ≡ zeros_last (name_cell names k)
      last-kept =
          last-by-zeros (name_cell changed k) (name_cell names k)
          (cell-length changed k within' ∙ sym (cell-length names k within)) zero-in-cell

      cell-kept : cell_bytes changed ≡ true → cell_ok (name_cell changed k) ≡ true
      cell-kept e =
          let was =
          and_right (cell_bytes (name_cell names k)) _ (sym (cell-is (name_cell names k)) ∙ ns.cell k within) in
          cell-is (name_cell changed k)
          ∙ and_from (cell_bytes (name_cell changed k)) _ (bytes-in-cell changed k within' e) (last-kept ∙ was)

    bytes-kept : name_byte x ≡ true → cell_bytes changed ≡ true
    unfolding cell_bytes
    bytes-kept n =
        every_of (λ j. cell_byte (get_or changed j 0)) (length changed) 0
        (λ j h g. go j (omega (arith, length-set names i x)) (eqb j i) refl)
      where
        go : (j : ℕ) → j < length names → (t : Bool) → eqb j i ≡ t → cell_byte (get_or changed j 0) ≡ true
        go j h true e = rw (eqb-true j i e, get_or-set_same names i x 0 there) (name-in-cell x n)
        go j h false e =
            rw (get_or-set_other names i j x 0 (eqb-false j i e))
            (every-at (λ k. cell_byte (get_or names k 0)) (length names) 0 j (names-bytes names ns) (omega arith)
            (omega arith))

    passes : name_byte x ≡ true → names_ok changed ≡ true
    unfolding names_ok
    passes n =
        let b = bytes-kept n in
        let l = length-set names i x in
        and_from (leb 1 (length changed)) _ (le-leb 1 (length changed) (omega (arith, l, ns.low)))
        (and_from (leb (length changed) (name_bytes * max_names)) _
        (le-leb (length changed) (name_bytes * max_names) (omega (arith, l, ns.high)))
        (and_from (eqb (length changed % name_bytes) 0) _
        (eq-eqb (length changed % name_bytes) 0 (ap (λ (n : ℕ). n % name_bytes) l ∙ ns.whole))
        (every_of (λ k. cell_ok (name_cell changed k)) (name_count changed) 0
        (λ k h g. cell-kept k (omega (arith, count_kept)) b))))

    refused : name_byte x ≡ false → names_ok changed ≡ true → ⊥
    unfolding cell_bytes
    refused n e =
        let b = names-bytes changed (names_of changed e) in
        let c =
        every-at (λ j. cell_byte (get_or changed j 0)) (length changed) 0 i b (omega arith)
        (omega (arith, length-set names i x)) in
        let d =
        rest-name x (sym (ap cell_byte (get_or-set_same names i x 0 there)) ∙ c) (ne_eqb x 0 (λ q. omega arith)) in
        true≢false (sym d ∙ n)

    exactly : names_ok changed ≡ name_byte x
    exactly = go (name_byte x) refl
      where
        go : (t : Bool) → name_byte x ≡ t → names_ok changed ≡ name_byte x
        go true e = passes e ∙ sym e
        go false e = sym (not_so (names_ok changed) (refused e)) ∙ sym e

-- Of accepted names any byte of a name, with x in its place: accepted exactly where x is a letter, a digit or '_'. A 0
-- would end the name there.
pub name-passes : (names : List ℕ) (i x : ℕ) → names_ok names ≡ true → i < length names → 1 ≤ get_or names i 0 → 1 ≤ x
    → names_ok (set names i x) ≡ among name_runs x
name-passes names i x ok there named some = exactly names i x ok there named some ∙ name-at x
