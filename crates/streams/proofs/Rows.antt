-- A reply's rows, by index: how many there are, their words, and a test of all of them as a run of numbers.
use Prim.Native.Nat.{ℕ, zero, suc, ◌+◌, ◌*◌, ◌<◌}
use mathlib.Core.Path.{◌≡◌, refl, sym, ap, ◌∙◌}
use mathlib.Core.Bool.{Bool, true, ◌&&◌, and_assoc, and-true}
use mathlib.Core.List.{List, [], ◌∷◌, ◌++◌}
use native.Mathlib.Omega.{arith}
use lib.ListN.{length, get_or, take, drop}
use lib.Seq.{take-suc, get_or-drop}
use Rattle.spec.specs.Words.{every}
use Rattle.spec.specs.Reply.{read_rows, rows_of}
use Rattle.spec.proofs.Words.{every-at}
use Rattle.streams.specs.Streams.{all_rows}

-- row i
abbrev pub row_at : List ℕ → ℕ → List ℕ
row_at reply i = get_or (rows_of reply) i []

-- ---- how many

read_length : (k : ℕ) (ns ps : List ℕ) → length (read_rows k ns ps) ≡ k
unfolding read_rows
read_length zero ns ps = refl
read_length (suc k) ns ps = ap suc (read_length k (drop 1 ns) (drop 2 ps))

pub rows-length : (reply : List ℕ) → length (rows_of reply) ≡ get_or reply 0 0
rows-length reply = read_length (get_or reply 0 0) (drop 4 reply) (drop (get_or reply 0 0) (drop 4 reply))

-- ---- the words of a row

read_at : (k i : ℕ) (ns ps : List ℕ) → i < k
    → get_or (read_rows k ns ps) i [] ≡ get_or ns i 0 ∷ get_or ps (2 * i) 0 ∷ get_or ps (2 * i + 1) 0 ∷ []
unfolding read_rows
read_at zero i ns ps h = absurd (omega arith)
read_at (suc k) zero ns ps h = refl
read_at (suc k) (suc i) ns ps h =
    let p : 2 + 2 * i ≡ 2 * suc i = omega arith in
    let q : 2 + (2 * i + 1) ≡ 2 * suc i + 1 = omega arith in
    let o : 1 + i ≡ suc i = omega arith in
    read_at k i (drop 1 ns) (drop 2 ps) (omega arith)
    ∙ rw (get_or-drop 1 ns i 0, get_or-drop 2 ps (2 * i) 0, get_or-drop 2 ps (2 * i + 1) 0, o, p, q)

module _ (reply : List ℕ) (i : ℕ) (h : i < get_or reply 0 0) where
  pub row_words : row_at reply i
      ≡ get_or reply (4 + i) 0
      ∷ get_or reply (4 + (get_or reply 0 0 + 2 * i)) 0
      ∷ get_or reply (4 + (get_or reply 0 0 + (2 * i + 1))) 0
      ∷ []
  row_words =
      let k = get_or reply 0 0 in
      read_at k i (drop 4 reply) (drop k (drop 4 reply)) h
      ∙ simp (get_or-drop)

  pub row_number : get_or (row_at reply i) 0 0 ≡ get_or reply (4 + i) 0
  row_number = ap (λ (r : List ℕ). get_or r 0 0) row_words

  pub row-time : get_or (row_at reply i) 1 0 ≡ get_or reply (4 + (get_or reply 0 0 + 2 * i)) 0
  row-time = ap (λ (r : List ℕ). get_or r 1 0) row_words

  pub row-packed : get_or (row_at reply i) 2 0 ≡ get_or reply (4 + (get_or reply 0 0 + (2 * i + 1))) 0
  row-packed = ap (λ (r : List ℕ). get_or r 2 0) row_words

  -- one row more
  pub rows-suc : take (suc i) (rows_of reply) ≡ take i (rows_of reply) ++ row_at reply i ∷ []
  rows-suc = take-suc (rows_of reply) i [] (omega (arith, rows-length reply))

-- ---- a test of all rows

all-every : (p : List ℕ → Bool) (rows : List (List ℕ)) (f : ℕ → List ℕ) (s : ℕ)
    → ((i : ℕ) → f (s + i) ≡ get_or rows i []) → all_rows p rows ≡ every (λ i. p (f i)) (length rows) s
unfolding all_rows every
all-every p [] f s h = refl
all-every p (r ∷ rows) f s h =
    let z : s + 0 ≡ s = omega arith in
    let e : f s ≡ r = rw z at (h 0) in
    rw (e, all-every p rows f (suc s) (λ i. let q : suc s + i ≡ s + suc i = omega arith in rw q (h (suc i))))

pub rows-every : (p : List ℕ → Bool) (reply : List ℕ)
    → all_rows p (rows_of reply) ≡ every (λ i. p (row_at reply i)) (get_or reply 0 0) 0
rows-every p reply =
    all-every p (rows_of reply) (row_at reply) 0 (λ i. let z : 0 + i ≡ i = omega arith in rw z)
    ∙ rw (rows-length reply)

-- what holds of all holds of row i
pub all-at : (p : List ℕ → Bool) (reply : List ℕ) (i : ℕ) → all_rows p (rows_of reply) ≡ true → i < get_or reply 0 0
    → p (row_at reply i) ≡ true
all-at p reply i e h =
    every-at (λ j. p (row_at reply j)) (get_or reply 0 0) 0 i (sym (rows-every p reply) ∙ e) (omega arith) (omega arith)

-- of a part of the rows
pub all_append : (p : List ℕ → Bool) (rows more : List (List ℕ))
    → all_rows p (rows ++ more) ≡ all_rows p rows && all_rows p more
unfolding all_rows
all_append p [] more = refl
all_append p (r ∷ rows) more = rw (all_append p rows more) (sym (and_assoc (p r) (all_rows p rows) (all_rows p more)))

pub all-suc : (p : List ℕ → Bool) (reply : List ℕ) (i : ℕ) → i < get_or reply 0 0
    → all_rows p (take (suc i) (rows_of reply)) ≡ all_rows p (take i (rows_of reply)) && p (row_at reply i)
unfolding all_rows
all-suc p reply i h =
    rw (rows-suc reply i h)
    (all_append p (take i (rows_of reply)) (row_at reply i ∷ [])
    ∙ ap (◌&&◌ (all_rows p (take i (rows_of reply)))) (and-true (p (row_at reply i))))
