-- A cell is a name, then zeros, exactly where its bytes are of a name or 0 and the zeros stand last.
use Prim.Native.Nat.{ℕ, zero, suc, ◌+◌, ◌-◌, ◌*◌, ◌/◌, ◌%◌, ◌≤◌, ◌<◌}
use mathlib.Core.Path.{◌≡◌, refl, sym, ap, ◌∙◌}
use mathlib.Core.Bool.{Bool, true, false, ◌&&◌, not, or-true, false≢true}
use mathlib.Core.List.{List, [], ◌∷◌, append-nil}
use native.Mathlib.Nat.{div-add-mod, mod-lt}
use native.Mathlib.Numerals.{add-one}
use native.Mathlib.Omega.{arith}
use lib.Dec.{leb, ltb, eqb, eqb-suc-zero}
use lib.ListN.{length, get_or, take, drop, length-drop}
use lib.Seq.{get_or-take, get_or-drop, length-take-le, drop-drop, take-add}
use borrow.Author.Tests.{leb-true, ltb-true, ltb-false, le-leb, not-true}
use Rattle.spec.specs.Words.{every}
use Rattle.spec.specs.Bytes.{name_byte, all}
use Rattle.spec.specs.Model.{name_bytes, letters, zeros, cell_ok, name_cell, name_count}
use Rattle.spec.proofs.Words.{and_left, and_right, every-at, every_of, every-keep, every-kept}
use Rattle.std.specs.List.{concat}
use Rattle.std.specs.Simd.{first_chunks}
use Rattle.std.specs.Cmp.{both_ways}
use Rattle.std.proofs.lemmas.Bool.{and_from}
use Rattle.spec.proofs.Model.{Names}
use Rattle.names.specs.Cells.{cell_byte, cell_bytes, follows, zeros_last}

-- ---- loops

pub bytes_start : (s : List ℕ) → cell_bytes s ≡ true && every (λ k. cell_byte (get_or s k 0)) (length s - 0) 0
unfolding cell_bytes
bytes_start s = let p : length s - 0 ≡ length s = omega arith in rw p

pub byte_more : (s : List ℕ) (fine t : Bool) (i : ℕ)
    → cell_bytes s ≡ fine && every (λ k. cell_byte (get_or s k 0)) (length s - i) i → i < length s
    → t ≡ cell_byte (get_or s i 0) → cell_bytes s ≡ (fine && t) && every (λ k. cell_byte (get_or s k 0)) (length s - (i + 1)) (i + 1)
byte_more s fine t i e h et = every-keep (λ k. cell_byte (get_or s k 0)) _ fine i (length s) e t h et

-- a run of numbers, one further on
pub every-on : (p q : ℕ → Bool) → ((i : ℕ) → p (suc i) ≡ q i) → (n i : ℕ) → every p n (suc i) ≡ every q n i
unfolding every
every-on p q e zero i = refl
every-on p q e (suc n) i = rw (e i, every-on p q e n (suc i))

pub all-bytes : (s : List ℕ) → all cell_byte s ≡ cell_bytes s
unfolding all cell_bytes every
all-bytes [] = refl
all-bytes (x ∷ xs) =
    let r = every-on (λ i. cell_byte (get_or (x ∷ xs) i 0)) (λ i. cell_byte (get_or xs i 0)) (λ i. refl) (length xs) 0 in
    rw (r, all-bytes xs)

-- the pairs that begin in what is left, the end of s, and the answer so far decide the whole
abbrev pair_at : List ℕ → ℕ → Bool
pair_at s k = follows (get_or s k 0) (get_or s (k + 1) 0)

pub record Pairing (s : List ℕ) (fine : Bool) (left : List ℕ) : Type 0 where
  pub inside : length left ≤ length s
  pub end : left ≡ drop (length s - length left) s
  pub rest : zeros_last s ≡ fine && every (pair_at s) (length s - 1 - (length s - length left)) (length s - length left)

pub pairing-none : (s left : List ℕ) → left ≡ s → Pairing s (not (eqb (get_or s 0 0) 0)) left
unfolding zeros_last
pairing-none s left e =
    let q : length s - length left ≡ 0 = omega (arith, ap length e) in
    let n : length s - 1 - 0 ≡ length s - 1 = omega arith in
    record { inside = omega (arith, ap length e); end = rw q e; rest = rw (q, n) refl }

module _ {s : List ℕ} {fine : Bool} {left : List ℕ} (r : Pairing s fine left) where
  pub pairing-more : (w next : List ℕ) → w ≡ take 2 left → next ≡ drop 1 left → 2 ≤ length left
      → (t : Bool) → t ≡ follows (get_or w 0 0) (get_or w 1 0) → Pairing s (fine && t) next
  pairing-more w next ew en h t et =
      let i = length s - length left in
      let l : length next + 1 ≡ length left = omega (arith, ap length en, length-drop 1 left) in
      let j : length s - length next ≡ i + 1 = omega (arith, r.inside) in
      let at : (k : ℕ) → k < 2 → get_or w k 0 ≡ get_or s (i + k) 0 =
      λ k g.
      ap (λ (x : List ℕ). get_or x k 0) ew
      ∙ get_or-take 2 left k 0 g
      ∙ ap (λ (x : List ℕ). get_or x k 0) r.end
      ∙ get_or-drop i s k 0 in
      let z : i + 0 ≡ i = omega arith in
      let a : get_or w 0 0 ≡ get_or s i 0 = at 0 (omega arith) ∙ ap (λ (k : ℕ). get_or s k 0) z in
      let b = at 1 (omega arith) in
      record {
        inside = omega (arith, r.inside);
        end = en ∙ ap (drop 1) r.end ∙ drop-drop 1 i s ∙ ap (λ (k : ℕ). drop k s) (omega arith);
        rest = rw j (every-keep (pair_at s) _ fine i (length s - 1) r.rest t (omega (arith, r.inside)) (et ∙ rw (a, b)));
      }

  pub pairing-all : length left < 2 → fine ≡ zeros_last s
  pairing-all h = every-kept (pair_at s) _ fine (length s - length left) (length s - 1) r.rest (omega (arith, r.inside))

-- ---- whole blocks

concat-chunks : (n k : ℕ) (s : List ℕ) → concat (first_chunks n k s) ≡ take (n * k) s
concat-chunks n zero s = let z : n * 0 ≡ 0 = omega arith in rw z
concat-chunks n (suc k) s =
    let z : n * suc k ≡ n + n * k = omega arith in rw (z, take-add n (n * k) s, concat-chunks n k (drop n s))

-- two parts that leave no byte out between them are the whole; they may overlap
module _ (s : List ℕ) (m k : ℕ) (no_gap : k ≤ m) (within : m ≤ length s) where
  front-at : (i : ℕ) → i < m → get_or (take m s) i 0 ≡ get_or s i 0
  front-at i h = get_or-take m s i 0 h

  two_parts : cell_bytes s ≡ cell_bytes (take m s) && cell_bytes (drop k s)
  unfolding cell_bytes
  two_parts =
      both_ways _ _
      (λ e.
      and_from (every (λ i. cell_byte (get_or (take m s) i 0)) _ 0) _
      (every_of _ (length (take m s)) 0
      (λ i h g. let l = length-take-le m s within in
      ap cell_byte (front-at i (omega arith)) ∙ every-at _ (length s) 0 i e h (omega arith)))
      (every_of _ (length (drop k s)) 0
      (λ i h g. let l = length-drop k s in
      ap cell_byte (get_or-drop k s i 0) ∙ every-at _ (length s) 0 (k + i) e (omega arith) (omega arith))))
      (λ e. every_of _ (length s) 0 (λ i h g. in_one e i g (ltb i m) refl))
    where
      in_one : every (λ i. cell_byte (get_or (take m s) i 0)) (length (take m s)) 0
          && every (λ i. cell_byte (get_or (drop k s) i 0)) (length (drop k s)) 0
          ≡ true
          → (i : ℕ) → i < 0 + length s → (t : Bool) → ltb i m ≡ t → cell_byte (get_or s i 0) ≡ true
      in_one e i g true q =
          let h = ltb-true i m q in
          let l = length-take-le m s within in
          sym (ap cell_byte (front-at i h)) ∙ every-at _ (length (take m s)) 0 i (and_left _ _ e) (omega arith) (omega arith)
      in_one e i g false q =
          let h = ltb-false i m q in
          let l = length-drop k s in
          let z : k + (i - k) ≡ i = omega arith in
          sym (ap cell_byte (get_or-drop k s (i - k) 0 ∙ ap (λ (j : ℕ). get_or s j 0) z))
          ∙ every-at _ (length (drop k s)) 0 (i - k)
          (and_right (every (λ i. cell_byte (get_or (take m s) i 0)) (length (take m s)) 0) _ e) (omega arith) (omega arith)

-- the whole blocks from the start on, and the last block, leave no byte out
pub in_blocks : (n : ℕ) (s : List ℕ) → 0 < n → n ≤ length s
    → cell_bytes s ≡ cell_bytes (concat (first_chunks n (length s / n) s)) && cell_bytes (concat (drop (length s - n) s ∷ []))
in_blocks n s z h =
    let l = length s in
    let d = div-add-mod l n in
    let r : l % n < n = mod-lt l (omega arith) in
    rw (concat-chunks n (l / n) s, append-nil (drop (l - n) s))
    (two_parts s (n * (l / n)) (l - n) (omega arith) (omega arith))

-- ---- bytes

-- a byte of a name is not 0
pub name-not-zero : (x : ℕ) → name_byte x ≡ true → eqb x 0 ≡ false
unfolding name_byte
name-not-zero zero e = absurd (false≢true e)
name-not-zero (suc x) e = eqb-suc-zero x

no_name : false ≡ name_byte 0
unfolding name_byte
no_name = refl

pub name-in-cell : (x : ℕ) → name_byte x ≡ true → cell_byte x ≡ true
unfolding cell_byte
name-in-cell x e = rw e

zero-in-cell : (x : ℕ) → eqb x 0 ≡ true → cell_byte x ≡ true
unfolding cell_byte
zero-in-cell x e = rw e (or-true (name_byte x))

-- a byte in a cell that is none of a name is 0
rest-zero : (x : ℕ) → cell_byte x ≡ true → name_byte x ≡ false → eqb x 0 ≡ true
unfolding cell_byte
rest-zero x e z = rw z at e

pub rest-name : (x : ℕ) → cell_byte x ≡ true → eqb x 0 ≡ false → name_byte x ≡ true
rest-name x e z = go (name_byte x) refl
  where
    go : (t : Bool) → name_byte x ≡ t → name_byte x ≡ true
    go true q = q
    go false q = absurd (false≢true (sym z ∙ rest-zero x e q))

follows-name : (a b : ℕ) → name_byte a ≡ true → follows a b ≡ true
unfolding follows
follows-name a b e = rw (name-not-zero a e)

follows-zero : (a b : ℕ) → eqb b 0 ≡ true → follows a b ≡ true
unfolding follows
follows-zero a b e = rw e (or-true (not (eqb a 0)))

zero-follows : (a b : ℕ) → eqb a 0 ≡ true → follows a b ≡ true → eqb b 0 ≡ true
unfolding follows
zero-follows a b e f = rw e at f

-- ---- a name, then zeros: by the bytes

zeros-at : (s : List ℕ) (i : ℕ) → zeros s ≡ true → eqb (get_or s i 0) 0 ≡ true
unfolding zeros
zeros-at [] i e = refl
zeros-at (x ∷ xs) zero e = and_left (eqb x 0) _ e
zeros-at (x ∷ xs) (suc i) e = zeros-at xs i (and_right (eqb x 0) _ e)

-- behind a 0, where each byte may stand behind the one before it
zeros-behind : (x : ℕ) (s : List ℕ) → eqb x 0 ≡ true
    → ((i : ℕ) → i < length s → follows (get_or (x ∷ s) i 0) (get_or s i 0) ≡ true) → zeros s ≡ true
unfolding zeros
zeros-behind x [] z f = refl
zeros-behind x (y ∷ ys) z f =
    let e = zero-follows x y z (f 0 (omega arith)) in
    and_from (eqb y 0) _ e (zeros-behind y ys e (λ i h. f (suc i) (omega arith)))

-- what stands behind the name is zeros
abbrev tail : List ℕ → Bool
tail s = zeros (drop (letters s) s)

tail_name : (x : ℕ) (xs : List ℕ) → name_byte x ≡ true → tail (x ∷ xs) ≡ tail xs
unfolding letters
tail_name x xs e = rw e

tail-rest : (x : ℕ) (xs : List ℕ) → name_byte x ≡ false → tail (x ∷ xs) ≡ eqb x 0 && zeros xs
unfolding letters zeros
tail-rest x xs e = rw e

by_name : {A : Type 0} (x : ℕ) → (name_byte x ≡ true → A) → (name_byte x ≡ false → A) → A
by_name {A} x f g = go (name_byte x) refl
  where
    go : (t : Bool) → name_byte x ≡ t → A
    go true e = f e
    go false e = g e

tail-bytes : (s : List ℕ) (i : ℕ) → tail s ≡ true → cell_byte (get_or s i 0) ≡ true
tail-bytes [] i e = zero-in-cell 0 refl
tail-bytes (x ∷ xs) zero e =
    by_name x (name-in-cell x) (λ n. zero-in-cell x (and_left _ _ (sym (tail-rest x xs n) ∙ e)))
tail-bytes (x ∷ xs) (suc i) e =
    by_name x
    (λ n. tail-bytes xs i (sym (tail_name x xs n) ∙ e))
    (λ n. zero-in-cell _ (zeros-at xs i (and_right (eqb x 0) _ (sym (tail-rest x xs n) ∙ e))))

tail-follows : (s : List ℕ) (i : ℕ) → tail s ≡ true → follows (get_or s i 0) (get_or s (suc i) 0) ≡ true
tail-follows [] i e = follows-zero 0 0 refl
tail-follows (x ∷ xs) i e =
    by_name x
    (λ n. go i (λ j. tail-follows xs j (sym (tail_name x xs n) ∙ e)) n)
    (λ n. follows-zero _ _ (zeros-at xs i (and_right (eqb x 0) _ (sym (tail-rest x xs n) ∙ e))))
  where
    go : (j : ℕ) → ((k : ℕ) → follows (get_or xs k 0) (get_or xs (suc k) 0) ≡ true) → name_byte x ≡ true
        → follows (get_or (x ∷ xs) j 0) (get_or xs j 0) ≡ true
    go zero f n = follows-name x _ n
    go (suc j) f n = f j

tail_of : (s : List ℕ) → ((i : ℕ) → i < length s → cell_byte (get_or s i 0) ≡ true)
    → ((i : ℕ) → suc i < length s → follows (get_or s i 0) (get_or s (suc i) 0) ≡ true) → tail s ≡ true
unfolding letters zeros
tail_of [] f g = refl
tail_of (x ∷ xs) f g =
    by_name x
    (λ n. tail_name x xs n ∙ tail_of xs (λ i h. f (suc i) (omega arith)) (λ i h. g (suc i) (omega arith)))
    (λ n.
    let z = rest-zero x (f 0 (omega arith)) n in
    tail-rest x xs n ∙ and_from (eqb x 0) _ z (zeros-behind x xs z (λ i h. g i (omega arith))))

-- ---- the first byte

first-name : (s : List ℕ) → 1 ≤ letters s → name_byte (get_or s 0 0) ≡ true
unfolding letters
first-name [] h = absurd (omega arith)
first-name (x ∷ xs) h = by_name x (λ n. n) (λ n. absurd (let k : letters (x ∷ xs) ≡ 0 = rw n in omega arith))

first-letter : (s : List ℕ) → name_byte (get_or s 0 0) ≡ true → 1 ≤ letters s
unfolding letters
first-letter [] e = absurd (false≢true (no_name ∙ e))
first-letter (x ∷ xs) e = let k : letters (x ∷ xs) ≡ suc (letters xs) = rw e in omega arith

-- ---- the cell

first_byte_lem : (s : List ℕ) → cell_bytes s ≡ true → cell_byte (get_or s 0 0) ≡ true
unfolding cell_bytes
first_byte_lem [] e = zero-in-cell 0 refl
first_byte_lem (x ∷ xs) e =
    every-at (λ i. cell_byte (get_or (x ∷ xs) i 0)) (length (x ∷ xs)) 0 0 e (omega arith) (omega arith)

cell-gives : (s : List ℕ) → cell_ok s ≡ true → cell_bytes s && zeros_last s ≡ true
unfolding cell_ok cell_bytes zeros_last
cell-gives s e =
    let n = first-name s (leb-true _ _ (and_left (leb 1 (letters s)) _ e)) in
    let t = and_right (leb 1 (letters s)) _ e in
    and_from (cell_bytes s) _
    (every_of (λ i. cell_byte (get_or s i 0)) (length s) 0 (λ i h g. tail-bytes s i t))
    (and_from (not (eqb (get_or s 0 0) 0)) _
    (rw (name-not-zero _ n))
    (every_of (λ i. follows (get_or s i 0) (get_or s (i + 1) 0)) (length s - 1) 0
    (λ i h g. rw (add-one i) (tail-follows s i t))))

cell-given : (s : List ℕ) → cell_bytes s && zeros_last s ≡ true → cell_ok s ≡ true
unfolding cell_ok cell_bytes zeros_last
cell-given s e =
    let b = and_left (cell_bytes s) _ e in
    let l = and_right (cell_bytes s) _ e in
    let p = and_right (not (eqb (get_or s 0 0) 0)) _ l in
    and_from (leb 1 (letters s)) _
    (le-leb _ _ (first-letter s (rest-name _ (first_byte_lem s b) (not-true _ (and_left _ _ l)))))
    (tail_of s
    (λ i h. every-at (λ i. cell_byte (get_or s i 0)) (length s) 0 i b (omega arith) (omega arith))
    (λ i h.
    let f =
    every-at (λ i. follows (get_or s i 0) (get_or s (i + 1) 0)) (length s - 1) 0 i p (omega arith) (omega arith) in
    rw (add-one i) at f))

pub cell-is : (s : List ℕ) → cell_ok s ≡ cell_bytes s && zeros_last s
cell-is s = both_ways _ _ (cell-gives s) (cell-given s)

-- ---- the cells of the names

pub cells_fit : (l k : ℕ) → k < l / name_bytes → name_bytes * k + name_bytes ≤ l
cells_fit l k h = omega (arith, div-add-mod l name_bytes)

module _ (names : List ℕ) (k : ℕ) (within : k < name_count names) where
  pub cell-length : length (name_cell names k) ≡ name_bytes
  cell-length =
      let l = length-drop (name_bytes * k) names in
      length-take-le name_bytes (drop (name_bytes * k) names) (omega (arith, cells_fit (length names) k within, l))

  pub cell-byte-at : (i : ℕ) → i < name_bytes → get_or (name_cell names k) i 0 ≡ get_or names (name_bytes * k + i) 0
  cell-byte-at i h =
      get_or-take name_bytes (drop (name_bytes * k) names) i 0 h ∙ get_or-drop (name_bytes * k) names i 0

  pub bytes-in-cell : cell_bytes names ≡ true → cell_bytes (name_cell names k) ≡ true
  unfolding cell_bytes
  bytes-in-cell e =
      every_of (λ i. cell_byte (get_or (name_cell names k) i 0)) (length (name_cell names k)) 0
      (λ i h g.
      let b : i < name_bytes = omega (arith, cell-length) in
      ap cell_byte (cell-byte-at i b)
      ∙ every-at (λ j. cell_byte (get_or names j 0)) (length names) 0 (name_bytes * k + i) e (omega arith)
      (omega (arith, cells_fit (length names) k within)))

  -- behind its bytes the zeros decide a cell
  pub cell-by-zeros : cell_bytes names ≡ true → zeros_last (name_cell names k) ≡ cell_ok (name_cell names k)
  cell-by-zeros b = sym (cell-is (name_cell names k) ∙ rw (bytes-in-cell b))

-- names that are refused for a byte
pub names-bytes : (names : List ℕ) → Names names → cell_bytes names ≡ true
unfolding cell_bytes
names-bytes names ns =
    every_of (λ j. cell_byte (get_or names j 0)) (length names) 0
    (λ j h g.
    let d = div-add-mod j name_bytes in
    let r : j % name_bytes < name_bytes = mod-lt j (omega arith) in
    let d2 = div-add-mod (length names) name_bytes in
    let w : j / name_bytes < name_count names = omega (arith, ns.whole) in
    let b = and_left _ _ (sym (cell-is (name_cell names (j / name_bytes))) ∙ ns.cell (j / name_bytes) w) in
    let i : name_bytes * (j / name_bytes) + j % name_bytes ≡ j = omega arith in
    sym (ap (λ (x : ℕ). cell_byte (get_or names x 0)) i)
    ∙ sym (ap cell_byte (cell-byte-at names (j / name_bytes) w (j % name_bytes) r))
    ∙ every-at (λ x. cell_byte (get_or (name_cell names (j / name_bytes)) x 0))
    (length (name_cell names (j / name_bytes))) 0 (j % name_bytes) b (omega arith)
    (omega (arith, cell-length names (j / name_bytes) w)))
