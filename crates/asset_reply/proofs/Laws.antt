-- Laws of asset replies: cells tested and written one by one, and the reply of them; all cells, newest first.
use Prim.Native.Nat.{ℕ, zero, suc, ◌+◌, ◌-◌, ◌*◌, ◌≤◌, ◌<◌}
use mathlib.Core.Path.{◌≡◌, refl, sym, ap, ap₂, ◌∙◌}
use mathlib.Core.Bool.{Bool, true, false, ◌&&◌}
use mathlib.Core.List.{List, [], ◌∷◌, ◌++◌}
use native.Mathlib.Numerals.{add-one}
use native.Mathlib.Omega.{arith}
use lib.ListN.{length, get_or, set, take, drop, length-set, length-drop, drop_of_length-le}
use Rattle.std.specs.List.{list_all, range_with_len}
use Rattle.std.proofs.Math.Bool.{and_comm, and-true}
use Rattle.std.proofs.lemmas.List.{get_or_default}
use Rattle.std.proofs.lemmas.List.Folds.{list_all-append}
use lib.Seq.{length-sets, sets-eq, sets, drop-cons}
use Rattle.spec.specs.Assets.{capacity, used, length_at, length_ok}
use Rattle.asset_reply.specs.Cells.{Cells}
use Rattle.spec.specs.Reply.{Replied, refuse, numbers, lengths, written, asset_words, asset_reply}
use Rattle.history.specs.Calls.{cell_rows, all_cells, cells_reply, down_from}
use Rattle.spec.specs.declared.Refusal.TheVariants.{Store, Space}
use Rattle.std.specs.Prelude.{Ok, Err}
use Rattle.spec.proofs.Reply.{length-numbers, length-lengths}
use Rattle.spec.proofs.Written.{sets-set}
use Rattle.reply.specs.Fitted.{Fitted}
use Rattle.reply.proofs.Laws.{short, whole}

-- ---- rows of cells

length-rows : (bs cells : List ℕ) → length (cell_rows bs cells) ≡ length cells
unfolding cell_rows
length-rows bs [] = refl
length-rows bs (c ∷ cells) = ap suc (length-rows bs cells)

-- ---- k cells, one by one: c is the next

module _ (cells : List ℕ) {k : ℕ} (many : length cells ≡ k) where
  pub next-cell : (i : ℕ) {c : ℕ} → i < k → get_or cells i 0 ≡ c → drop i cells ≡ c ∷ drop (i + 1) cells
  next-cell i h e = rw (add-one i, drop-cons cells i 0 (omega arith), e)

-- all cells, in the library's words
pub cells-all : (p : ℕ → Bool) (cells : List ℕ) → list_all p cells ≡ all_cells p cells
unfolding all_cells
cells-all p [] = refl
cells-all p (c ∷ cells) = rw (cells-all p cells)

-- a word that stands at a place of the cells is one of the store's
pub below-at : {bs cells : List ℕ} → Cells bs cells → (x k : ℕ) → k < length cells → x ≡ get_or cells k x
    → x < capacity bs
below-at {cells = cells} h x k l e = rw (e, get_or_default cells k x 0 l) (h.below k l)

-- the cells are their rows' numbers
numbers-are : (bs cells : List ℕ) → numbers (cell_rows bs cells) ≡ cells
unfolding numbers cell_rows
numbers-are bs [] = refl
numbers-are bs (c ∷ cells) = ap (λ (l : List ℕ). c ∷ l) (numbers-are bs cells)

-- a turn of a loop that writes the lengths of k cells from word k, behind the cells: l is what it has of o
pub record Writing (bs cells : List ℕ) (k : ℕ) (o l : List ℕ) (i : ℕ) : Type 0 where
  pub size : length l ≡ length o
  pub all : sets (sets o 0 (numbers (cell_rows bs cells))) k (lengths (cell_rows bs cells))
      ≡ sets l (k + i) (lengths (cell_rows bs (drop i cells)))

-- the cells are copied: v is the front as it comes back
pub writing-none : (bs cells o v : List ℕ) → v ≡ cells → length cells ≤ length o
    → Writing bs cells (length cells) o (v ++ drop (length cells) o) 0
writing-none bs cells o v e h =
    let y : 0 + length cells ≡ length cells = omega arith in
    let z : length cells + 0 ≡ length cells = omega arith in
    let put : sets o 0 cells ≡ cells ++ drop (length cells) o = sets-eq cells o 0 (omega arith) ∙ rw y in
    record {
      size = rw (e, ← put) (length-sets o 0 cells);
      all = rw (numbers-are bs cells, e, ← put, z) refl;
    }

module _ {bs cells o l : List ℕ} {k i : ℕ} (w : Writing bs cells k o l i) (many : length cells ≡ k) where
  pub writing_more : i < k → (c n : ℕ) → get_or cells i 0 ≡ c → n ≡ length_at bs c
      → Writing bs cells k o (set l (k + i) n) (i + 1)
  unfolding lengths cell_rows
  writing_more h c n is e =
      let z : k + (i + 1) ≡ suc (k + i) = omega arith in
      record {
        size = simp length-set w.size;
        all = w.all ∙ rw (next-cell cells many i h is, ← e, z) refl;
      }

  pub writing-end : k ≤ i → l ≡ sets (sets o 0 (numbers (cell_rows bs cells))) k (lengths (cell_rows bs cells))
  unfolding lengths cell_rows
  writing-end h = sym (w.all ∙ rw (drop_of_length-le cells {i = i} (omega arith)))

-- two runs of words: what the first word of each leaves to store
two-more : (l : List ℕ) (i q c x : ℕ) (C L : List ℕ) → suc i + length C ≤ q
    → sets (sets l i (c ∷ C)) q (x ∷ L) ≡ sets (sets (set (set l i c) q x) (i + 1) C) (q + 1) L
two-more l i q c x C L h =
    rw (add-one i, add-one q) (ap (λ (y : List ℕ). sets y (suc q) L) (sym (sets-set C (set l i c) (suc i) q x h)))

-- a turn of a loop that writes k cells from word 0 and their lengths from word k: l is what it has of o
pub record Filling (bs cells : List ℕ) (k : ℕ) (o l : List ℕ) (i : ℕ) : Type 0 where
  pub size : length l ≡ length o
  pub all : sets (sets o 0 (numbers (cell_rows bs cells))) k (lengths (cell_rows bs cells))
      ≡ sets (sets l i (numbers (cell_rows bs (drop i cells)))) (k + i) (lengths (cell_rows bs (drop i cells)))

pub filling-none : (bs cells : List ℕ) (k : ℕ) (o : List ℕ) → Filling bs cells k o o 0
filling-none bs cells k o = let z : k + 0 ≡ k = omega arith in record { size = refl; all = rw z refl }

module _ {bs cells o l : List ℕ} {k i : ℕ} (w : Filling bs cells k o l i) (many : length cells ≡ k) where
  pub filling_more : i < k → (c n : ℕ) → get_or cells i 0 ≡ c → n ≡ length_at bs c
      → Filling bs cells k o (set (set l i c) (k + i) n) (i + 1)
  unfolding numbers lengths cell_rows
  filling_more h c n is e =
      let more = cell_rows bs (drop (i + 1) cells) in
      let z : k + (i + 1) ≡ k + i + 1 = omega arith in
      record {
        size = simp length-set w.size;
        all =
            w.all
            ∙ rw (next-cell cells many i h is, ← e, z)
            (two-more l i (k + i) c n (numbers more) (lengths more)
            (omega (
              arith,
              length-numbers more,
              length-rows bs (drop (i + 1) cells),
              length-drop (i + 1) cells,
            )));
      }

  pub filling-end : k ≤ i → l ≡ sets (sets o 0 (numbers (cell_rows bs cells))) k (lengths (cell_rows bs cells))
  unfolding numbers lengths cell_rows
  filling-end h = sym (w.all ∙ rw (drop_of_length-le cells {i = i} (omega arith)))

-- ---- the reply of k cells whose lengths are right

module _ (bs : List ℕ) {reply x : List ℕ} {k u a : ℕ} {t : Bool} (w : Fitted reply (2 * k) (k ∷ u ∷ a ∷ 0 ∷ []) t x)
    (iu : u ≡ used bs) (ia : a ≡ capacity bs) (cells : List ℕ) (many : length cells ≡ k)
    (right : all_cells (λ i. length_ok (length_at bs i)) cells ≡ true) where
  in_words : (let rows = cell_rows bs cells in
      cells_reply bs cells reply ≡ written k (k ∷ u ∷ a ∷ 0 ∷ (numbers rows ++ lengths rows)) reply)
  unfolding cells_reply asset_reply asset_words
  in_words = rw (right, ← iu, ← ia, length-rows bs cells, many)

  row_count : k ≡ length (numbers (cell_rows bs cells))
  row_count = sym (length-numbers (cell_rows bs cells) ∙ length-rows bs cells ∙ many)

  row_words : 2 * k ≡ length (numbers (cell_rows bs cells)) + length (lengths (cell_rows bs cells))
  row_words = omega (arith, row_count, length-lengths (cell_rows bs cells), length-rows bs cells)

  pub cells-short : t ≡ false → cells_reply bs cells reply ≡ record { answer = Err Space; reply = x }
  cells-short f = let rows = cell_rows bs cells in in_words ∙ short w (numbers rows) (lengths rows) row_words f

  -- y is the part behind the sizes as it comes back
  pub cells_whole : (y : List ℕ) → t ≡ true
      → (let rows = cell_rows bs cells in
      y ≡ sets (sets (take (length x - 4) (drop 4 x)) 0 (numbers rows)) k (lengths rows))
      → cells_reply bs cells reply
      ≡ record { answer = Ok k; reply = take 4 x ++ (y ++ drop (length x - 4) (drop 4 x)) }
  cells_whole y fits ey =
      let rows = cell_rows bs cells in
      in_words ∙ whole w (numbers rows) (lengths rows) row_words row_count fits y ey

pub cells-wrong : (bs cells reply : List ℕ) → all_cells (λ i. length_ok (length_at bs i)) cells ≡ false
    → cells_reply bs cells reply ≡ refuse Store reply
unfolding cells_reply
cells-wrong bs cells reply f = rw f

-- ---- u - 1, .. 0

pub length-down : (n : ℕ) → length (down_from n) ≡ n
unfolding down_from
length-down zero = refl
length-down (suc n) = ap suc (length-down n)

pub down-at : (n i : ℕ) → i < n → get_or (down_from n) i 0 ≡ n - 1 - i
unfolding down_from
down-at zero i h = absurd (omega arith)
down-at (suc n) zero h = omega arith
down-at (suc n) (suc i) h = omega (arith, down-at n i (omega arith))

-- 0, .. u - 1, in the library's words, and u - 1, .. 0 have the same cells
range-end : (a n b : ℕ) → a + n ≡ b → range_with_len a (suc n) ≡ range_with_len a n ++ b ∷ []
range-end a zero b e = let q : a ≡ b = omega arith in ap (λ (x : ℕ). x ∷ []) q
range-end a (suc n) b e = ap (λ (l : List ℕ). a ∷ l) (range-end (a + 1) n b (omega arith))

pub range-all : (p : ℕ → Bool) (n : ℕ) → list_all p (range_with_len 0 n) ≡ all_cells p (down_from n)
unfolding all_cells down_from
range-all p zero = refl
range-all p (suc n) =
    ap (list_all p) (range-end 0 n n (omega arith))
    ∙ list_all-append p (range_with_len 0 n) (n ∷ [])
    ∙ ap₂ (λ (a b : Bool). a && b) (range-all p n) (and-true (p n))
    ∙ and_comm (all_cells p (down_from n)) (p n)

-- all cells, where k is how many are used
pub of-used : (bs reply : List ℕ) {k : ℕ} {o : Replied} → k ≡ used bs → cells_reply bs (down_from k) reply ≡ o
    → cells_reply bs (down_from (used bs)) reply ≡ o
of-used bs reply e h = sym (ap (λ (n : ℕ). cells_reply bs (down_from n) reply) e) ∙ h
