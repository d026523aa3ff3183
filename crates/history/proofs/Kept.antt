-- The relation between the reference model's H and the words of an observation store, and that adding keeps it.
use mathlib.Core.Path.{◌≡◌, refl, sym, ap, ◌∙◌, subst}
use mathlib.Core.Logic.{◌≢◌, ◌⊎◌, inl, inr}
use mathlib.Core.Bool.{true, false}
use Prim.Native.Nat.{ℕ, suc, ◌+◌, ◌-◌, ◌*◌, ◌%◌, ◌≤◌, ◌<◌}
use native.Mathlib.Nat.{mod-lt, mod-eq-sub-mod}
use native.Mathlib.Omega.{arith}
use mathlib.Core.List.{List, [], ◌∷◌, ◌++◌, map}
use lib.Dec.{leb, ltb, eqb}
use lib.ListN.{length, get_or, set, take, drop, length-append, length-take}
use lib.Seq.{take-suc, take-append-le, take_all, take-length, get_or-take}
use borrow.Author.Tests.{ltb-true, ltb-false, leb-true, leb-false, eqb-true, eqb-false, eq-eqb, ne_eqb}
use Rattle.spec.specs.Words.{row, put}
use Rattle.spec.specs.Value.{pack, item_of}
use Rattle.history.specs.Reference.{Observation, nothing, newest, triple}
use Rattle.spec.specs.declared.Value.{Value}
use Rattle.spec.specs.Blocks.{table_rows, put_rows, padded}
use Rattle.spec.specs.Entries.{step, used_rows}
use Rattle.history.specs.Standing.{standing, found, shown, entries_of, crowded_standing}
use Rattle.history.specs.Observations.{entry, item_at, latest_at, checkpoint_at, store_words, item_rows, is_condition}
use Rattle.history.specs.Observations.{stepped, set_newest, overwrites, overwritten, evict, add}
use Rattle.spec.proofs.Words.{by-test}
use Rattle.spec.proofs.Tables.{length-put, row-put-same, row-put-other, row-put-apart}
use Rattle.spec.proofs.Blocks.{Threes, row-put-rows-apart, table-rows-ext, table-rows-same, table-rows-other}
use Rattle.spec.proofs.Blocks.{table-rows-apart, length-padded, padded-threes}
use Rattle.spec.proofs.Steps.{rows-three, used-three, step-three}
use Rattle.history.proofs.Added.{rows_for, rows-for-three, rows-for-few, length-evict, length-add, get-add}
use Rattle.history.proofs.Added.{last-add}
use Rattle.spec.proofs.Packing.{Coded, item-coded}
use Rattle.history.proofs.Recorded.{Numbered, numbered-at, numbered-append, each_append, newest-snoc, mod-apart}
use Rattle.history.proofs.Standing.{Sound, sound, standing-snoc, few-step}
use Rattle.history.proofs.Entries.{Own, step-triple, used-shown}

abbrev pub pair : Observation → List ℕ
pair o = o.time ∷ pack o.item o.value ∷ []

-- the numbers k (counted from 0) from lo on stand at their places in the ring
abbrev pub Ring : ℕ → List Observation → ℕ → List ℕ → Type 0
Ring N H lo st = (k : ℕ) → k < length H → lo ≤ k → row st 4 N (k % N) 2 ≡ pair (get_or H k nothing)

-- ---- the ring

ring-put : (N : ℕ) (H : List Observation) (o : Observation) (st : List ℕ) → 0 < N → 4 + (2 * N) ≤ length st
    → Ring N H (length H - N) st
    → Ring N (H ++ (o ∷ [])) (suc (length H) - N) (put st 4 N (length H % N) (pair o))
ring-put N H o st p f r =
    each_append (λ k x. suc (length H) - N ≤ k → row st' 4 N (k % N) 2 ≡ pair x) H o
    (λ k h lo.
    row-put-other (pair o) st 4 N (length H % N) (k % N) 2 (mod-lt (length H) p) (mod-lt k p)
    (mod-apart N k (length H) h (omega arith))
    ∙ r k h (omega arith))
    (λ lo. row-put-same (pair o) st 4 N (length H % N) (mod-lt (length H) p) (omega arith))
  where
    st' : List ℕ
    st' = put st 4 N (length H % N) (pair o)

-- a table behind the ring changes
ring-apart : (N : ℕ) (H : List Observation) (lo : ℕ) (st : List ℕ) (b' w' j : ℕ) (xs : List ℕ) → 0 < N → j < w'
    → (4 + (2 * N) ≤ b') ⊎ (b' + length xs * w' ≤ 4) → Ring N H lo st
    → Ring N H lo (put st b' w' j xs)
ring-apart N H lo st b' w' j xs p h (inl a) r k l c =
    row-put-apart xs st b' w' j 4 N (k % N) 2 h (mod-lt k p) (inl (omega arith)) ∙ r k l c
ring-apart N H lo st b' w' j xs p h (inr a) r k l c =
    row-put-apart xs st b' w' j 4 N (k % N) 2 h (mod-lt k p) (inr (omega arith)) ∙ r k l c

-- the word `last` changes
ring-head : (N : ℕ) (H : List Observation) (lo : ℕ) (st : List ℕ) (n : ℕ) → 0 < N → Ring N H lo st
    → Ring N H lo (set st 3 n)
unfolding put
ring-head N H lo st n p r = ring-apart N H lo st 3 1 0 (n ∷ []) p (omega arith) (inr (omega arith)) r

-- the observation that is added as the next number
abbrev pub next : ℕ → List Observation → ℕ → ℕ → Value → Observation
next B H item time value = record { number = B + length H; item = item; time = time; value = value }

-- ---- an item's entries with one observation more

-- each has a value that fits its word, and a number
abbrev pub Right : List Observation → Type 0
Right G = (k : ℕ) → k < length G → Coded (get_or G k nothing).value × (0 < (get_or G k nothing).number)

pub sound-item : (i : ℕ) (G : List Observation) → Right G → Sound (Own i) (standing i G) (newest i G)
sound-item i G r = sound (Own i) i G (λ k h e. (e, (r k h).0, (r k h).1))

pub entries-condition : (c i : ℕ) (G : List Observation) → eqb c 2 ≡ true
    → entries_of c i G ≡ shown (standing i G) (newest i G)
unfolding entries_of
entries-condition c i G e = rw e

pub entries-plain : (c i : ℕ) (G : List Observation) → eqb c 2 ≡ false → entries_of c i G ≡ found (newest i G)
unfolding entries_of
entries-plain c i G e = rw e

pub entries-other : (c i : ℕ) (G : List Observation) (o : Observation) → eqb o.item i ≡ false
    → entries_of c i (G ++ (o ∷ [])) ≡ entries_of c i G
unfolding entries_of
entries-other c i G o e = rw (standing-snoc G o i, newest-snoc G o i, e)

module _ (i : ℕ) (G : List Observation) (o : Observation) (r : Right G) (few : length (standing i G) ≤ 8)
    (q : Own i o) where
  pub step-entries : step i (map triple (shown (standing i G) (newest i G))) (triple o)
      ≡ map triple (shown (standing i (G ++ (o ∷ []))) (newest i (G ++ (o ∷ []))))
  step-entries =
      rw (standing-snoc G o i, newest-snoc G o i, eq-eqb o.item i q.0)
      (step-triple i (standing i G) (newest i G) o (sound-item i G r) few q)

-- ---- the relation of a table

-- the table at word b holds each item's entries of G: latest, and checkpoint
abbrev pub Stand : (ℕ → ℕ) → ℕ → ℕ → List Observation → List ℕ → Type 0
Stand cat b m G st = (i : ℕ) → i < m → item_rows st b m i ≡ padded 8 (map triple (entries_of (cat i) i G))

-- behind the first row of an item that is no condition item nothing is used
rest-unused : (n : Observation) → drop 1 (padded 8 (map triple (found n))) ≡ padded 7 []
unfolding padded
rest-unused n = by-test (eqb n.number 0) (λ e. rw e) (λ e. rw e)

module _ (cat : ℕ → ℕ) (b m : ℕ) (G : List Observation) (o : Observation) (st : List ℕ) (h : o.item < m)
    (f : b + 24 * m ≤ length st) (s : Stand cat b m G st) (g : Right G) (v : Coded o.value) (p : 0 < o.number) where
  put-condition : is_condition cat o.item ≡ true → length (standing o.item G) ≤ 8
      → item_rows (put_rows st b (8 * m) (8 * o.item) (padded 8 (stepped st b m o.item (triple o)))) b m o.item
      ≡ padded 8 (map triple (entries_of (cat o.item) o.item (G ++ (o ∷ []))))
  put-condition c few =
      subst (λ (n : ℕ). table_rows (put_rows st b (8 * m) (8 * o.item) rs) b (8 * m) n (8 * o.item) ≡ rs)
      (length-padded 8 es)
      (table-rows-same rs st b (8 * m) (8 * o.item) three (omega (arith, length-padded 8 es)) (omega arith))
      ∙ ap (padded 8) is
    where
      es : List (List ℕ)
      es = stepped st b m o.item (triple o)

      rs : List (List ℕ)
      rs = padded 8 es

      three : Threes rs
      three =
          padded-threes 8 es
          (step-three o.item (used_rows (item_rows st b m o.item)) (triple o) refl
          (used-three (item_rows st b m o.item) (rows-three st b (8 * m) 8 (8 * o.item))))

      is : es ≡ map triple (entries_of (cat o.item) o.item (G ++ (o ∷ [])))
      is =
          rw (
            s o.item h,
            entries-condition (cat o.item) o.item G c,
            entries-condition (cat o.item) o.item (G ++ (o ∷ [])) c,
            used-shown o.item (newest o.item G) (standing o.item G) (sound-item o.item G g) few,
          )
          (step-entries o.item G o g few (refl, v, p))

  put-plain : is_condition cat o.item ≡ false
      → item_rows (put_rows st b (8 * m) (8 * o.item) (triple o ∷ [])) b m o.item
      ≡ padded 8 (map triple (entries_of (cat o.item) o.item (G ++ (o ∷ []))))
  unfolding table_rows padded
  put-plain c =
      rw (
        entries-plain (cat o.item) o.item (G ++ (o ∷ [])) c,
        newest-snoc G o o.item,
        eq-eqb o.item o.item refl,
        ne_eqb o.number 0 (omega arith),
      )
      (ap (λ (r : List ℕ). r ∷ table_rows st' b (8 * m) 7 (suc (8 * o.item))) first
      ∙ ap (λ (rs : List (List ℕ)). triple o ∷ rs) (behind ∙ zeros))
    where
      st' : List ℕ
      st' = put_rows st b (8 * m) (8 * o.item) (triple o ∷ [])

      first : row st' b (8 * m) (8 * o.item) 3 ≡ triple o
      first =
          ap (λ (rs : List (List ℕ)). get_or rs 0 [])
          (table-rows-same (triple o ∷ []) st b (8 * m) (8 * o.item) (refl, tt) (omega arith) (omega arith))

      behind : table_rows st' b (8 * m) 7 (suc (8 * o.item)) ≡ table_rows st b (8 * m) 7 (suc (8 * o.item))
      behind =
          table-rows-other (triple o ∷ []) st b (8 * m) (8 * o.item) (refl, tt) (omega arith) 7 (suc (8 * o.item))
          (omega arith) (inr (omega arith))

      zeros : table_rows st b (8 * m) 7 (suc (8 * o.item)) ≡ padded 7 []
      zeros =
          ap (drop 1) (s o.item h) ∙ rw (entries-plain (cat o.item) o.item G c)
          (rest-unused (newest o.item G))

pub stand-put : (cat : ℕ → ℕ) (b m : ℕ) (G : List Observation) (o : Observation) (st : List ℕ) → o.item < m
    → b + 24 * m ≤ length st
    → Stand cat b m G st → Right G → Coded o.value → 0 < o.number
    → (is_condition cat o.item ≡ true → length (standing o.item G) ≤ 8)
    → Stand cat b m (G ++ (o ∷ [])) (set_newest cat st b m o.item (triple o))
stand-put cat b m G o st h f s g v p few i l =
    by-test (eqb o.item i)
    (λ e.
    let q : i ≡ o.item = sym (eqb-true o.item i e) in
    rw q
    (by-test (is_condition cat o.item)
    (λ c. rw c (put-condition cat b m G o st h f s g v p c (few c)))
    (λ c. rw c (put-plain cat b m G o st h f s g v p c))))
    (λ e.
    rw (entries-other (cat i) i G o e)
    (table-rows-other ws st b (8 * m) (8 * o.item) three fits 8 (8 * i) (omega arith) (apart e) ∙ s i l))
  where
    ws : List (List ℕ)
    ws = rows_for cat st b m o.item (triple o)

    three : Threes ws
    three = rows-for-three cat st b m o.item (triple o) refl

    fits : 8 * o.item + length ws ≤ 8 * m
    fits = omega (arith, rows-for-few cat st b m o.item (triple o))

    apart : eqb o.item i ≡ false → (8 * i + 8 ≤ 8 * o.item) ⊎ (8 * o.item + length ws ≤ 8 * i)
    apart e =
        let n : o.item ≢ i = eqb-false o.item i e in
        by-test (ltb i o.item)
        (λ t. inl (omega (arith, ltb-true i o.item t)))
        (λ t. inr (omega (arith, ltb-false i o.item t, rows-for-few cat st b m o.item (triple o))))

-- rows of another table, or the head, are overwritten
pub stand-apart : (cat : ℕ → ℕ) (b m : ℕ) (G : List Observation) (st : List ℕ) (b' w' j : ℕ) (xs : List ℕ) → j < w'
    → (b + 24 * m ≤ b') ⊎ (b' + length xs * w' ≤ b) → Stand cat b m G st → Stand cat b m G (put st b' w' j xs)
stand-apart cat b m G st b' w' j xs h (inl a) s i l =
    table-rows-ext _ st b (8 * m) 8 (8 * i)
    (λ k c d. row-put-apart xs st b' w' j b (8 * m) k 3 h (omega arith) (inl (omega arith))) ∙ s i l
stand-apart cat b m G st b' w' j xs h (inr a) s i l =
    table-rows-ext _ st b (8 * m) 8 (8 * i)
    (λ k c d. row-put-apart xs st b' w' j b (8 * m) k 3 h (omega arith) (inr (omega arith))) ∙ s i l

pub stand-rows-apart : (cat : ℕ → ℕ) (b m : ℕ) (G : List Observation) (st : List ℕ) (b' j : ℕ) (rs : List (List ℕ))
    → Threes rs → length rs ≤ 8 → j < m
    → (b + 24 * m ≤ b') ⊎ (b' + 24 * m ≤ b) → Stand cat b m G st → Stand cat b m G (put_rows st b' (8 * m) (8 * j) rs)
stand-rows-apart cat b m G st b' j rs t f h (inl a) s i l =
    table-rows-apart rs st b' (8 * m) (8 * j) t (omega arith) b (8 * m) 8 (8 * i) (omega arith) (inl (omega arith))
    ∙ s i l
stand-rows-apart cat b m G st b' j rs t f h (inr a) s i l =
    table-rows-apart rs st b' (8 * m) (8 * j) t (omega arith) b (8 * m) 8 (8 * i) (omega arith) (inr (omega arith))
    ∙ s i l

pub stand-head : (cat : ℕ → ℕ) (b m : ℕ) (G : List Observation) (st : List ℕ) (n : ℕ) → 4 ≤ b → Stand cat b m G st
    → Stand cat b m G (set st 3 n)
unfolding put
stand-head cat b m G st n h s = stand-apart cat b m G st 3 1 0 (n ∷ []) (omega arith) (inr (omega arith)) s

ring-rows-apart : (N m : ℕ) (H : List Observation) (lo : ℕ) (st : List ℕ) (b' j : ℕ) (rs : List (List ℕ)) → 0 < N
    → Threes rs → length rs ≤ 8 → j < m
    → 4 + 2 * N ≤ b' → Ring N H lo st → Ring N H lo (put_rows st b' (8 * m) (8 * j) rs)
ring-rows-apart N m H lo st b' j rs p t f h a r k l c =
    row-put-rows-apart rs st b' (8 * m) (8 * j) 4 N (k % N) 2 t (omega arith) (mod-lt k p) (inl (omega arith))
    ∙ r k l c

-- ---- the relation of a store

pub record Rep (cat : ℕ → ℕ) (N m B : ℕ) (H : List Observation) (st : List ℕ) : Type 0 where
  pub N-pos : 0 < N
  pub B-pos : 0 < B
  pub words : length st ≡ store_words N m
  pub cap : get_or st 0 0 ≡ N
  pub items : get_or st 1 0 ≡ m
  pub base : get_or st 2 0 ≡ B
  pub last : suc (get_or st 3 0) ≡ B + length H
  pub ring : Ring N H (length H - N) st
  pub latest : Stand cat (latest_at N) m H st
  pub checkpoint : Stand cat (checkpoint_at N m) m (take (length H - N) H) st
  pub numbered : Numbered B H
  pub fits : (k : ℕ) → k < length H → ((get_or H k nothing).item < m) × Coded (get_or H k nothing).value
  pub few : (i k : ℕ) → is_condition cat i ≡ true → length (standing i (take k H)) ≤ 8

module _ (cat : ℕ → ℕ) (N m B : ℕ) (H : List Observation) (st : List ℕ) (R : Rep cat N m B H st) where
  pub right : Right H
  right k h = ((R.fits k h).1, omega (arith, numbered-at H B k R.numbered h, R.B-pos))

  pub right-take : (n : ℕ) → Right (take n H)
  right-take n k h =
      let l : k < n = omega (arith, length-take n H) in
      let l' : k < length H = omega (arith, length-take n H) in
      rw (get_or-take n H k nothing l) (right k l')

  pub few-all : (i : ℕ) → is_condition cat i ≡ true → length (standing i H) ≤ 8
  few-all i c = rw (take-length H) at (R.few i (length H) c)

  -- the entry that is about to be overwritten is number length H - N ..
  pub evicted : N ≤ length H → entry N B st (B + length H) ≡ pair (get_or H (length H - N) nothing)
  evicted n =
      let q : B + length H - B ≡ length H = omega arith in
      rw (q, mod-eq-sub-mod n) (R.ring (length H - N) (omega (arith, R.N-pos)) (omega arith))

  pub evicted-item : N ≤ length H → item_at N B st (B + length H) ≡ (get_or H (length H - N) nothing).item
  evicted-item n =
      ap (λ (r : List ℕ). item_of (get_or r 1 0)) (evicted n)
      ∙ item-coded (get_or H (length H - N) nothing).item (get_or H (length H - N) nothing).value
      (R.fits (length H - N) (omega (arith, R.N-pos))).1

  pub evicted-row : N ≤ length H → overwritten N B st (B + length H) ≡ triple (get_or H (length H - N) nothing)
  evicted-row n =
      let e : B + length H - N ≡ (get_or H (length H - N) nothing).number =
      omega (arith, numbered-at H B (length H - N) R.numbered (omega (arith, R.N-pos))) in
      rw (e, evicted n)

  pub evicted-fits : overwrites N B (B + length H) ≡ true → item_at N B st (B + length H) < m
  evicted-fits e =
      rw (evicted-item (omega (arith, leb-true)))
      (R.fits (length H - N) (omega (arith, leb-true, R.N-pos))).0

  -- .. and steps its item's checkpoint
  evict-checkpoint : Stand cat (checkpoint_at N m) m (take (suc (length H) - N) H) (evict cat N m B (B + length H) st)
  unfolding evict
  evict-checkpoint =
      by-test (leb N (B + length H - B))
      (λ e.
      let z : suc (length H) - N ≡ suc (length H - N) = omega (arith, leb-true) in
      let n : N ≤ length H = omega (arith, leb-true) in
      let h : length H - N < length H = omega (arith, R.N-pos) in
      rw (e, evicted-item n, evicted-row n, z, take-suc H (length H - N) nothing h)
      (stand-put cat (checkpoint_at N m) m (take (length H - N) H) (get_or H (length H - N) nothing) st
      (R.fits (length H - N) h).0
      (omega (arith, R.words)) R.checkpoint (right-take (length H - N)) (right (length H - N) h).0
      (right (length H - N) h).1
      (R.few (get_or H (length H - N) nothing).item (length H - N))))
      (λ e.
      let z : suc (length H) - N ≡ length H - N = omega (arith, leb-false) in
      rw (e, z) R.checkpoint)

  -- eviction leaves the store or overwrites rows of one item's checkpoint
  evict-cases : (P : List ℕ → Type 0) → P st
      → ((j : ℕ) (rs : List (List ℕ)) → j < m → Threes rs → length rs ≤ 8
      → P (put_rows st (checkpoint_at N m) (8 * m) (8 * j) rs))
      → P (evict cat N m B (B + length H) st)
  unfolding evict row
  evict-cases P p f =
      by-test (leb N (B + length H - B))
      (λ e.
      let i : ℕ = item_at N B st (B + length H) in
      let r : List ℕ = overwritten N B st (B + length H) in
      let h : i < m = evicted-fits e in
      rw e
      (f i (rows_for cat st (checkpoint_at N m) m i r) h (rows-for-three cat st (checkpoint_at N m) m i r refl)
      (rows-for-few cat st (checkpoint_at N m) m i r)))
      (λ e. rw e p)

few-snoc : (cat : ℕ → ℕ) (H : List Observation) (o : Observation)
    → ((i k : ℕ) → is_condition cat i ≡ true → length (standing i (take k H)) ≤ 8)
    → (is_condition cat o.item ≡ true → crowded_standing (standing o.item H) o.value ≡ false)
    → (i k : ℕ) → is_condition cat i ≡ true → length (standing i (take k (H ++ (o ∷ [])))) ≤ 8
few-snoc cat H o few hc i k c =
    by-test (leb k (length H))
    (λ e. rw (take-append-le k H (o ∷ []) (leb-true k (length H) e)) (few i k c))
    (λ e.
    rw (
      take_all k (H ++ (o ∷ [])) (omega (arith, leb-false k (length H) e, length-append H (o ∷ []))),
      standing-snoc H o i,
    )
    (by-test (eqb o.item i)
    (λ t.
    let q : i ≡ o.item = sym (eqb-true o.item i t) in
    let c' : is_condition cat o.item ≡ true = rw q at c in
    rw (t, q) (few-step (standing o.item H) o (rw (take-length H) at (few o.item (length H) c')) (hc c')))
    (λ t. rw t (rw (take-length H) at (few i (length H) c)))))

pub add-rep : (cat : ℕ → ℕ) (N m B : ℕ) (H : List Observation) (st : List ℕ) (item time : ℕ) (value : Value)
    → Rep cat N m B H st → item < m → Coded value
    → (is_condition cat item ≡ true → crowded_standing (standing item H) value ≡ false)
    → Rep cat N m B (H ++ (next B H item time value ∷ []))
    (add cat N m B (B + length H) item time (pack item value) st)
unfolding add
add-rep cat N m B H st item time value R hi hv hc =
    let p : 0 < N = R.N-pos in
    let z : B + length H - B ≡ length H = omega arith in
    let len : length (H ++ (o ∷ [])) ≡ suc (length H) = omega (arith, length-append H (o ∷ [])) in
    rw z
    (record {
      N-pos = p;
      B-pos = R.B-pos;
      words = ap length (sym sum) ∙ length-add cat N m B n st item time (pack item value) ∙ R.words;
      cap = heads 0 (omega arith) ∙ R.cap;
      items = heads 1 (omega arith) ∙ R.items;
      base = heads 2 (omega arith) ∙ R.base;
      last =
          omega (
            arith,
            len,
            ap (λ (s : List ℕ). get_or s 3 0) (sym sum),
            last-add cat N m B n st item time (pack item value) (omega (arith, R.words)),
          );
      ring =
          subst (λ (l : ℕ). Ring N H' (l - N) (set S3 3 n)) (sym len)
          (ring-head N H' (suc (length H) - N) S3 n p
          (ring-rows-apart N m H' (suc (length H) - N) S2 (latest_at N) item ws p three few hi (omega arith)
          (ring-put N H o S1 p (omega (arith, l1))
          (evict-cases cat N m B H st R (Ring N H (length H - N)) R.ring
          (λ j rs h t f.
          ring-rows-apart N m H (length H - N) st (checkpoint_at N m) j rs p t f h (omega arith) R.ring)))));
      latest =
          stand-head cat (latest_at N) m H' S3 n (omega arith)
          (stand-put cat (latest_at N) m H o S2 hi (omega (arith, l2))
          (stand-apart cat (latest_at N) m H S1 4 N (length H % N) (pair o) (mod-lt (length H) p) (inr (omega arith))
          (evict-cases cat N m B H st R (Stand cat (latest_at N) m H) R.latest
          (λ j rs h t f. stand-rows-apart cat (latest_at N) m H st (checkpoint_at N m) j rs t f h (inl (omega arith))
          R.latest)))
          (right cat N m B H st R) hv (omega (arith, R.B-pos)) (few-all cat N m B H st R item));
      checkpoint =
          rw (len, take-append-le (suc (length H) - N) H (o ∷ []) (omega arith))
          (stand-head cat (checkpoint_at N m) m G S3 n (omega arith)
          (stand-rows-apart cat (checkpoint_at N m) m G S2 (latest_at N) item ws three few hi (inr (omega arith))
          (stand-apart cat (checkpoint_at N m) m G S1 4 N (length H % N) (pair o) (mod-lt (length H) p)
          (inr (omega arith))
          (evict-checkpoint cat N m B H st R))));
      numbered = numbered-append H B o R.numbered refl;
      fits = each_append (λ k x. (x.item < m) × Coded x.value) H o R.fits (hi, hv);
      few = few-snoc cat H o R.few hc;
    })
  where
    n : ℕ
    n = B + length H

    o : Observation
    o = next B H item time value

    H' : List Observation
    H' = H ++ (o ∷ [])

    G : List Observation
    G = take (suc (length H) - N) H

    S1 : List ℕ
    S1 = evict cat N m B n st

    S2 : List ℕ
    S2 = put S1 4 N (length H % N) (pair o)

    ws : List (List ℕ)
    ws = rows_for cat S2 (latest_at N) m item (triple o)

    three : Threes ws
    three = rows-for-three cat S2 (latest_at N) m item (triple o) refl

    few : length ws ≤ 8
    few = rows-for-few cat S2 (latest_at N) m item (triple o)

    S3 : List ℕ
    S3 = put_rows S2 (latest_at N) (8 * m) (8 * item) ws

    l1 : length S1 ≡ store_words N m
    l1 = length-evict cat N m B n st ∙ R.words

    l2 : length S2 ≡ store_words N m
    l2 = length-put (pair o) S1 4 N (length H % N) ∙ l1

    -- the place of the new number, counted from B
    sum : add cat N m B n item time (pack item value) st ≡ set S3 3 n
    sum =
        let z : B + length H - B ≡ length H = omega arith in
        rw z

    heads : (j : ℕ) → j < 3 → get_or (set S3 3 n) j 0 ≡ get_or st j 0
    heads j h =
        ap (λ (s : List ℕ). get_or s j 0) (sym sum)
        ∙ get-add cat N m B n st item time (pack item value) j h R.N-pos hi (evicted-fits cat N m B H st R)
