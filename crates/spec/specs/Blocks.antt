-- Rows side by side in a table of three columns (number, time, packed word), as in Words: Req 05's entries of an item.
use Rattle.std.specs.Prelude.{ℕ, zero, suc, ◌+◌, ◌-◌, Bool, cond, List, [], ◌∷◌, ◌++◌, length}
use Rattle.spec.specs.Words.{row, put}

-- n rows from row k on
unfoldable pub table_rows : List ℕ → ℕ → ℕ → ℕ → ℕ → List (List ℕ)
table_rows st b w zero k = []
table_rows st b w (suc n) k = row st b w k 3 ∷ table_rows st b w n (suc k)

-- the words with the rows from row k on overwritten by rs
unfoldable pub put_rows : List ℕ → ℕ → ℕ → ℕ → List (List ℕ) → List ℕ
put_rows st b w k [] = st
put_rows st b w k (r ∷ rs) = put_rows (put st b w k r) b w (suc k) rs

-- an unused row
abbrev pub unused : List ℕ
unused = 0 ∷ 0 ∷ 0 ∷ []

-- n rows: rs, and unused ones behind
unfoldable pub padded : ℕ → List (List ℕ) → List (List ℕ)
padded zero rs = []
padded (suc n) [] = unused ∷ padded n []
padded (suc n) (r ∷ rs) = r ∷ padded n rs

-- rows: what v gives of those of n numbers from i on that p holds of, any number of rows each
unfoldable pub flat_rows : (ℕ → Bool) → (ℕ → List (List ℕ)) → ℕ → ℕ → List (List ℕ)
flat_rows p v zero i = []
flat_rows p v (suc n) i =
    let r = flat_rows p v n (suc i) in
    cond (p i) (v i ++ r) r

-- the rows of a number beyond its first, summed over those of n numbers from s on that p holds of
unfoldable pub extra_rows : (ℕ → Bool) → (ℕ → List (List ℕ)) → ℕ → ℕ → ℕ
extra_rows p v zero s = 0
extra_rows p v (suc n) s = cond (p s) (length (v s) - 1) 0 + extra_rows p v n (suc s)
