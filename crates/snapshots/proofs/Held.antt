-- What the marks hold along the pass: each condition item's entries, and a ninth entry is where there would be nine.
-- The others' eight stay as they are.
use Prim.Native.Nat.{ℕ, zero, suc, ◌+◌, ◌-◌, ◌≤◌, ◌<◌}
use mathlib.Core.Path.{◌≡◌, refl, sym, ap, ◌∙◌}
use mathlib.Core.Bool.{Bool, true, false, cond, ◌&&◌, ◌||◌, not, not-not, and-false, true≢false}
use mathlib.Core.List.{List, [], ◌∷◌, map}
use native.Mathlib.Omega.{arith}
use lib.Dec.{leb, ltb, eqb}
use lib.ListN.{length}
use borrow.Author.Tests.{eq-eqb, ne_eqb, eqb-true, le-ltb, le-leb, ltb-true, leb-false, not-true}
use Rattle.spec.specs.Words.{bit, every}
use Rattle.spec.specs.Value.{item_of}
use Rattle.spec.specs.Model.{max_items}
use Rattle.spec.specs.Blocks.{padded, unused}
use Rattle.spec.specs.Entries.{step}
use Rattle.history.specs.Observations.{ring_size, base, item_at, numbered, ring_ok, entries_in}
use Rattle.spec.proofs.Words.{by-test, not_so, every-at, every_of, and_left, and_right}
use Rattle.spec.proofs.Steps.{Formed, step-formed}
use Rattle.history.proofs.Pass.{nine-ends}
use Rattle.marks.specs.Marks.{mark_of, place_in, key_of, eight_of}
use Rattle.changes.specs.Changes.{change_for, changed, is_full}
use Rattle.marks.specs.Marked.{Marked}
use Rattle.changes.proofs.Steps.{changed-map, change-full, change-steps, marked-change, length-changed}
use Rattle.changes.proofs.Laws.{change-fits}
use Rattle.marks.proofs.Places.{marked-length}
use Rattle.marks.proofs.Keys.{key-small, mark-place, mark-key}
use Rattle.snapshot_rows.specs.Held.{row_of, used_places}
use Rattle.snapshot_rows.proofs.Laws.{vacant}
use Rattle.picks.specs.Pass.{stepped_eight, stepped_ok, word_of, number_stepped, pass_marks, pass_ok}
use Rattle.picks.proofs.Eights.{eight-stepped, length-all-stepped}

-- ---- marks

-- no mark: the same as no place (vacant), of the marks that are made
abbrev pub no_mark : ℕ → Bool
no_mark x = eqb x 0

-- ---- a condition item's eight

-- the row of a mark, unused where it has no place
abbrev pub row_in : ℕ → List ℕ → ℕ → ℕ → ℕ → List ℕ
row_in m st f i x = cond (vacant x) unused (row_of m st f i (place_in x))

-- ms hold the entries es
pub record Holding (m : ℕ) (st : List ℕ) (f i : ℕ) (es : List (List ℕ)) (ms : List ℕ) : Type 0 where
  pub eight : length ms ≡ 8
  pub formed : Formed i es
  pub marked : Marked i es ms
  pub rows : map (row_in m st f i) ms ≡ padded 8 es
  pub placed : map vacant ms ≡ map no_mark ms

-- the rows of the marks are the entries
module _ (m : ℕ) (st : List ℕ) (f i : ℕ) where
  held_rows : (es : List (List ℕ)) (ms : List ℕ) → Marked i es ms → map (row_in m st f i) ms ≡ padded (length ms) es
      → map vacant ms ≡ map no_mark ms → map (row_of m st f i) (used_places ms) ≡ es
  unfolding used_places padded
  held_rows [] [] k r p = refl
  held_rows [] (x ∷ xs) k r p = rw k.0
  held_rows (e ∷ es) [] k r p = absurd k
  held_rows (e ∷ es) (x ∷ xs) k r p =
      let n : no_mark x ≡ false = ne_eqb x 0 (omega (arith, k.0)) in
      let q : vacant x ≡ no_mark x = (cc) in
      let t : map vacant xs ≡ map no_mark xs = (cc) in
      let a : row_in m st f i x ≡ e = (cc) in
      let b : map (row_in m st f i) xs ≡ padded (length xs) es = (cc) in
      rw (q, n) (ap (λ (y : List ℕ). y ∷ map (row_of m st f i) (used_places xs)) (rw (q, n) at a)
      ∙ ap (λ (y : List (List ℕ)). e ∷ y) (held_rows es xs k.2 b t))

  pub holding-rows : {es : List (List ℕ)} {ms : List ℕ} → Holding m st f i es ms
      → map (row_of m st f i) (used_places ms) ≡ es
  holding-rows {es} {ms} v = held_rows es ms v.marked (rw v.eight v.rows) v.placed

  -- the row of a number of the ring
  pub ring-row : (s : ℕ) → f ≤ s → row_of m st f i (s - f + 9) ≡ numbered (ring_size st) (base st) st s
  ring-row s h =
      let q : f + (s - f + 9 - 9) ≡ s = omega arith in
      rw (le-ltb (s - f + 9) 9 (omega arith), q)

  module _ (s : ℕ) (h : f ≤ s) (es : List (List ℕ)) (ms : List ℕ) (v : Holding m st f i es ms) where
    -- one more entry, that is no ninth
    pub holding-more : is_full (change_for i ms (word_of st s)) ≡ false
        → Holding m st f i (step i es (numbered (ring_size st) (base st) st s))
        (changed 0 (change_for i ms (word_of st s)) (mark_of (s - f + 9) (key_of i (word_of st s))) ms)
    holding-more n =
        let r = numbered (ring_size st) (base st) st s in
        let c = change_for i ms (word_of st s) in
        let y = mark_of (s - f + 9) (key_of i (word_of st s)) in
        let k = key-small i (word_of st s) in
        let p : place_in y ≡ s - f + 9 = mark-place (s - f + 9) (key_of i (word_of st s)) k in
        let some : vacant y ≡ false = rw p (ne_eqb (s - f + 9) 0 (omega arith)) in
        let used : no_mark y ≡ false = ne_eqb y 0 (omega arith) in
        let new : row_in m st f i y ≡ r = rw (some, p) (ring-row s h) in
        record {
          eight = length-changed 0 c y ms (change-fits ms v.eight i (word_of st s)) v.eight;
          formed = step-formed i es r v.formed;
          marked = marked-change i es ms r v.formed v.marked v.eight y n (omega arith)
              (mark-key (s - f + 9) (key_of i (word_of st s)) k);
          rows =
              changed-map (row_in m st f i) 0 c y ms
              ∙ (rw (new, v.rows) (change-steps i es ms r v.formed v.marked v.eight));
          placed = changed-map vacant 0 c y ms ∙ (rw (some, v.placed) (sym (changed-map no_mark 0 c y ms ∙ rw used)));
        }

    -- a ninth is where there would be nine
    pub holding-full : not (is_full (change_for i ms (word_of st s)))
        ≡ leb (length (step i es (numbered (ring_size st) (base st) st s))) 8
    holding-full =
        rw (change-full i es ms (numbered (ring_size st) (base st) st s) v.formed v.marked v.eight)
        (not-not (leb (length (step i es (numbered (ring_size st) (base st) st s))) 8))

-- ---- all items, behind one number

module _ (steps m : ℕ) (st : List ℕ) (f : ℕ) (few : m ≤ max_items) where
  -- each condition item's entries are es
  abbrev pub Held : List (List ℕ) → (ℕ → List (List ℕ)) → Type 0
  Held l es = (i : ℕ) → i < m → bit steps i ≡ true → Holding m st f i (es i) (eight_of l i)

  -- they are behind number s
  abbrev pub entries_next : ℕ → (ℕ → List (List ℕ)) → ℕ → List (List ℕ)
  entries_next s es i =
      cond (eqb (item_at (ring_size st) (base st) st s) i) (step i (es i) (numbered (ring_size st) (base st) st s))
      (es i)

  module _ (s : ℕ) (l : List (List ℕ)) (len : length l ≡ max_items) (h : f ≤ s)
      (own : item_at (ring_size st) (base st) st s < m) where
    eight-next : (i : ℕ) → i < m → eight_of (number_stepped steps st f s l) i
        ≡ cond (bit steps i && eqb (item_at (ring_size st) (base st) st s) i)
        (stepped_eight i (s - f + 9) (word_of st s) (eight_of l i)) (eight_of l i)
    eight-next i g =
        eight-stepped (s - f + 9) (word_of st s) steps i (item_of (word_of st s)) l len (omega arith)

    held_next : (es : ℕ → List (List ℕ)) → Held l es
        → stepped_ok steps (item_of (word_of st s)) (word_of st s) l ≡ true
        → Held (number_stepped steps st f s l) (entries_next s es)
    unfolding stepped_ok
    held_next es v ok i g b =
        let j = item_at (ring_size st) (base st) st s in
        by-test (eqb j i)
        (λ t.
        let e : j ≡ i = eqb-true j i t in
        let n : is_full (change_for i (eight_of l i) (word_of st s)) ≡ false = not-true _ (rw (e, b) at ok) in
        rw (eight-next i g, b, t) (holding-more m st f i s h (es i) (eight_of l i) (v i g b) n))
        (λ t. rw (eight-next i g, b, t) (v i g b))

  -- ---- behind k numbers

  length-next : (s : ℕ) (l : List (List ℕ)) → length l ≡ max_items → length (number_stepped steps st f s l) ≡ max_items
  length-next s l n = length-all-stepped (s - f + 9) (word_of st s) steps (item_of (word_of st s)) l ∙ n

  pub held-end : (k s : ℕ) (l : List (List ℕ)) (es : ℕ → List (List ℕ)) → length l ≡ max_items → f ≤ s → Held l es
      → pass_ok steps m st f k s l ≡ true
      → Held (pass_marks steps st f k s l) (λ i. entries_in (ring_size st) (base st) st i k s (es i))
  unfolding pass_marks pass_ok entries_in
  held-end zero s l es n h v ok = v
  held-end (suc k) s l es n h v ok =
      let j = item_of (word_of st s) in
      let a = ltb-true j m (and_left (ltb j m) _ ok) in
      let rest = and_right (ltb j m) _ ok in
      let b = and_left (stepped_ok steps j (word_of st s) l) _ rest in
      let c = and_right (stepped_ok steps j (word_of st s) l) _ rest in
      held-end k (suc s) (number_stepped steps st f s l) (entries_next s es) (length-next s l n) (omega arith)
      (held_next s l n h a es v b) c

  pub length-passed : (k s : ℕ) (l : List (List ℕ)) → length l ≡ max_items
      → length (pass_marks steps st f k s l) ≡ max_items
  unfolding pass_marks
  length-passed zero s l n = n
  length-passed (suc k) s l n = length-passed k (suc s) (number_stepped steps st f s l) (length-next s l n)

  -- another item's eight stay as they were
  pub others-end : (i : ℕ) → i < m → bit steps i ≡ false → (k s : ℕ) (l : List (List ℕ)) → length l ≡ max_items → f ≤ s
      → pass_ok steps m st f k s l ≡ true → eight_of (pass_marks steps st f k s l) i ≡ eight_of l i
  unfolding pass_marks pass_ok
  others-end i g b zero s l n h ok = refl
  others-end i g b (suc k) s l n h ok =
      let j = item_of (word_of st s) in
      let a = ltb-true j m (and_left (ltb j m) _ ok) in
      let c = and_right (stepped_ok steps j (word_of st s) l) _ (and_right (ltb j m) _ ok) in
      others-end i g b k (suc s) (number_stepped steps st f s l) (length-next s l n) (omega arith) c
      ∙ (eight-next s l n h a i g ∙ rw b)

  -- ---- the refusal Store: the items are the model's, and no condition item comes to nine entries

  abbrev pub eight_ok : ℕ → ℕ → (ℕ → List (List ℕ)) → Bool
  eight_ok k s es =
      every (λ i. not (bit steps i) || leb (length (entries_in (ring_size st) (base st) st i k s (es i))) 8) m 0

  -- nine entries behind number s are nine behind all
  nine-next : (k s : ℕ) (es : ℕ → List (List ℕ)) (j : ℕ) → j < m → bit steps j ≡ true
      → leb (length (entries_next s es j)) 8 ≡ false → false ≡ eight_ok (suc k) s es
  unfolding entries_in
  nine-next k s es j g b n =
      not_so (eight_ok (suc k) s es)
      (λ t.
      let w = every-at _ m 0 j t (omega arith) (omega arith) in
      let x = nine-ends (ring_size st) (base st) st j k (suc s) (entries_next s es j) (leb-false _ 8 n) in
      true≢false (sym (rw (b, x, n) at w)))

  -- a ninth entry by number s
  ninth-next : (k s : ℕ) (l : List (List ℕ)) (es : ℕ → List (List ℕ)) → f ≤ s → Held l es
      → item_at (ring_size st) (base st) st s < m → stepped_ok steps (item_of (word_of st s)) (word_of st s) l ≡ false
      → false ≡ eight_ok (suc k) s es
  unfolding stepped_ok
  ninth-next k s l es h v own z =
      let j = item_at (ring_size st) (base st) st s in
      by-test (bit steps j)
      (λ b.
      let n = sym (holding-full m st f j s h (es j) (eight_of l j) (v j own b)) ∙ (rw b at z) in
      nine-next k s es j own b (rw (eq-eqb j j refl) n))
      (λ b. absurd (true≢false (rw b at z)))

  eight-none : (s : ℕ) (l : List (List ℕ)) (es : ℕ → List (List ℕ)) → Held l es → true ≡ eight_ok 0 s es
  unfolding entries_in
  eight-none s l es v =
      sym (every_of _ m 0
      (λ i g h.
      by-test (bit steps i)
      (λ b.
      let w = v i (omega arith) b in
      let few : length (es i) ≤ 8 = omega (arith, marked-length i (es i) (eight_of l i) w.marked, w.eight) in
      rw (b, le-leb (length (es i)) 8 few))
      (λ b. rw b)))

  pub ok-is : (k s : ℕ) (l : List (List ℕ)) (es : ℕ → List (List ℕ)) → length l ≡ max_items → f ≤ s → Held l es
      → pass_ok steps m st f k s l ≡ ring_ok (ring_size st) m (base st) st k s && eight_ok k s es
  unfolding pass_ok ring_ok every entries_in
  ok-is zero s l es n h v = eight-none s l es v
  ok-is (suc k) s l es n h v =
      let j = item_of (word_of st s) in
      by-test (ltb j m)
      (λ a.
      let own = ltb-true j m a in
      by-test (stepped_ok steps j (word_of st s) l)
      (λ b.
      rw (a, b)
      (ok-is k (suc s) (number_stepped steps st f s l) (entries_next s es) (length-next s l n) (omega arith)
      (held_next s l n h own es v b)))
      (λ b. rw (a, b, ← ninth-next k s l es h v own b)
      (sym (and-false (ring_ok (ring_size st) m (base st) st k (suc s))))))
      (λ a. rw a)
