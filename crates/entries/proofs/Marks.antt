-- The marks of rows in their written form are those of the used ones.
use mathlib.Core.Path.{◌≡◌, refl, ap}
use mathlib.Core.Bool.{true}
use Prim.Native.Nat.{ℕ, zero, suc, ◌≤◌, ◌<◌}
use native.Mathlib.Omega.{arith}
use mathlib.Core.List.{List, [], ◌∷◌}
use lib.Dec.{leb, eqb}
use lib.ListN.{length, get_or, drop}
use borrow.Author.Tests.{eqb-true}
use Rattle.spec.specs.Entries.{packed, each_row, zero_row, used_rows, form_ok}
use Rattle.spec.specs.Blocks.{padded, unused}
use Rattle.spec.proofs.Words.{and_left, and_right, by-test}
use Rattle.spec.proofs.Blocks.{Threes}
use Rattle.marks.specs.Marks.{key_of}
use Rattle.marks.specs.Marked.{Marked}
use Rattle.marks.proofs.Keys.{key-small, mark-some, mark-key}
use Rattle.entries.specs.Forms.{marks_of}

pub length-marks : (own place : ℕ) (rs : List (List ℕ)) → length (marks_of own place rs) ≡ length rs
unfolding marks_of
length-marks own place [] = refl
length-marks own place (r ∷ rs) = ap suc (length-marks own (suc place) rs)

-- the rows behind the used ones, zeros
pub form-zeros : (own least : ℕ) (rs : List (List ℕ)) → form_ok own least rs ≡ true
    → each_row zero_row (drop (length (used_rows rs)) rs) ≡ true
unfolding form_ok
form-zeros own least rs h =
    and_left (each_row zero_row (drop (length (used_rows rs)) rs)) _ (and_right (leb least (length (used_rows rs))) _ h)

marks-zeros : (own place : ℕ) (rs : List (List ℕ)) → each_row zero_row rs ≡ true → Marked own [] (marks_of own place rs)
unfolding marks_of each_row
marks-zeros own place [] z = tt
marks-zeros own place (r ∷ rs) z =
    rw (and_left (eqb (get_or r 0 0) 0) _ (and_left (zero_row r) _ z))
    (refl, marks-zeros own (suc place) rs (and_right (zero_row r) _ z))

marks-from : (own place : ℕ) (rs : List (List ℕ)) → 0 < place
    → each_row zero_row (drop (length (used_rows rs)) rs) ≡ true → Marked own (used_rows rs) (marks_of own place rs)
unfolding marks_of used_rows each_row
marks-from own place [] p z = tt
marks-from own place (r ∷ rs) p z =
    by-test (eqb (get_or r 0 0) 0)
    (λ e. rw e (refl, marks-zeros own (suc place) rs (and_right (zero_row r) _ (rw e at z))))
    (λ e.
    rw e (
      mark-some place (key_of own (packed r)) p,
      mark-key place (key_of own (packed r)) (key-small own (packed r)),
      marks-from own (suc place) rs (omega arith) (rw e at z),
    ))

pub marks-of : (own least : ℕ) (rs : List (List ℕ)) → form_ok own least rs ≡ true
    → Marked own (used_rows rs) (marks_of own 1 rs)
marks-of own least rs h = marks-from own 1 rs (omega arith) (form-zeros own least rs h)

-- ---- the used rows, and those in front

pub used-max : (rs : List (List ℕ)) → length (used_rows rs) ≤ length rs
unfolding used_rows
used-max [] = omega arith
used-max (r ∷ rs) =
    by-test (eqb (get_or r 0 0) 0) (λ e. rw e (omega arith)) (λ e. rw e (omega (arith, used-max rs)))

pub used-at : (rs : List (List ℕ)) (j : ℕ) → j < length (used_rows rs) → get_or (used_rows rs) j [] ≡ get_or rs j []
unfolding used_rows
used-at [] j h = refl
used-at (r ∷ rs) zero h =
    by-test (eqb (get_or r 0 0) 0)
    (λ e. let k : 0 < length {A = List ℕ} [] = rw e at h in absurd (omega arith))
    (λ e. rw e)
used-at (r ∷ rs) (suc j) h =
    by-test (eqb (get_or r 0 0) 0)
    (λ e. let k : suc j < length {A = List ℕ} [] = rw e at h in absurd (omega arith))
    (λ e. let k : suc j < suc (length (used_rows rs)) = rw e at h in rw e (used-at rs j (omega arith)))

zero-unused : (r : List ℕ) → length r ≡ 3 → zero_row r ≡ true → r ≡ unused
zero-unused [] l z = absurd (omega arith)
zero-unused (a ∷ []) l z = absurd (omega arith)
zero-unused (a ∷ b ∷ []) l z = absurd (omega arith)
zero-unused (a ∷ b ∷ c ∷ []) l z =
    let y = and_right (eqb a 0) _ z in
    rw (
      eqb-true a 0 (and_left (eqb a 0) _ z),
      eqb-true b 0 (and_left (eqb b 0) _ y),
      eqb-true c 0 (and_right (eqb b 0) _ y),
    )
zero-unused (a ∷ b ∷ c ∷ d ∷ r) l z = absurd (omega arith)

zeros-padded : (rs : List (List ℕ)) → Threes rs → each_row zero_row rs ≡ true → rs ≡ padded (length rs) []
unfolding each_row padded
zeros-padded [] t z = refl
zeros-padded (r ∷ rs) t z =
    rw (zero-unused r t.0 (and_left (zero_row r) _ z))
    (ap (λ k. unused ∷ k) (zeros-padded rs t.1 (and_right (zero_row r) _ z)))

-- rows in their written form are the used ones, and unused ones behind
pub rows-padded : (rs : List (List ℕ)) → Threes rs → each_row zero_row (drop (length (used_rows rs)) rs) ≡ true
    → rs ≡ padded (length rs) (used_rows rs)
unfolding used_rows padded
rows-padded [] t z = refl
rows-padded (r ∷ rs) t z =
    by-test (eqb (get_or r 0 0) 0)
    (λ e. rw e (zeros-padded (r ∷ rs) t (rw e at z)))
    (λ e. rw e (ap (λ k. r ∷ k) (rows-padded rs t.1 (rw e at z))))
