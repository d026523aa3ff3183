-- Rows and tests over the store's words are those over H.
use mathlib.Core.Path.{◌≡◌, refl, sym, ap, ◌∙◌}
use mathlib.Core.Logic.{◌⊎◌, inl, inr}
use mathlib.Core.Bool.{Bool, true, false, cond, ◌&&◌, ◌||◌, not}
use Prim.Native.Nat.{ℕ, zero, suc, ◌+◌, ◌-◌, ◌≤◌, ◌<◌}
use native.Mathlib.Nat.{add-zero}
use native.Mathlib.Omega.{arith}
use mathlib.Core.List.{List, [], ◌∷◌, ◌++◌, map}
use lib.Dec.{leb, ltb, eqb}
use lib.ListN.{length, get_or, take}
use lib.Seq.{take-suc, slice, slice_empty, slice-cons}
use borrow.Author.Tests.{leb-true, eqb-true, lt-ltb, le-leb, ne_eqb}
use Rattle.spec.specs.Words.{every, pick_rows, bit}
use Rattle.spec.specs.Value.{item_of, pack, takes}
use Rattle.history.specs.Reference.{Observation, nothing, newest, triple, keep, within}
use Rattle.spec.specs.Blocks.{table_rows, padded}
use Rattle.spec.specs.Entries.{step, used_rows, repeats_in, crowded, form_ok}
use Rattle.history.specs.Standing.{standing, found, shown, entries_of, entries_rows, same_standing, crowded_standing}
use Rattle.history.specs.Observations.{entry, item_at, newest_in, ring_ok, sample_rows, latest_at}
use Rattle.history.specs.Observations.{checkpoint_at, item_rows, item_row, is_condition, stepped, overwritten, evict_ok}
use Rattle.history.specs.Observations.{entries_in, if_used, latest_rows, held_entries, snapshot_rows, current_rows}
use Rattle.history.specs.Observations.{at_rows, current_ok, at_ok}
use Rattle.spec.specs.declared.Value.{Value}
use Rattle.spec.proofs.Words.{and_right, every_of, by-test}
use Rattle.spec.proofs.Blocks.{flat-ext}
use Rattle.spec.proofs.Packing.{Coded, item-coded}
use Rattle.history.proofs.Recorded.{numbered-at, newest-snoc, within-slice}
use Rattle.history.proofs.Standing.{along, standing-snoc}
use Rattle.history.proofs.Entries.{Own, used-shown, shown-few, form-shown, same-triple, crowded-triple}
use Rattle.history.proofs.Kept.{pair, Right, sound-item, entries-condition, entries-plain, step-entries, Stand}
use Rattle.history.proofs.Kept.{Rep, right, right-take, few-all, evicted-item, evicted-row}

cond_map : (f : Observation → List ℕ) (b : Bool) (o : Observation) (r : List Observation)
    → cond b (f o ∷ map f r) (map f r) ≡ map f (cond b (o ∷ r) r)
cond_map f true o r = refl
cond_map f false o r = refl

-- an item's newest has a number, or there is none
pub newest-or-nothing : (i : ℕ) (G : List Observation) → Right G → (newest i G ≡ nothing) ⊎ (0 < (newest i G).number)
newest-or-nothing i G r =
    along (λ S n. (n ≡ nothing) ⊎ (0 < n.number)) i [] nothing G (λ k h e S n p. inr (r k h).1) (inl refl)

-- an item's first row in a table
first-padded : (n : Observation) → (n ≡ nothing) ⊎ (0 < n.number)
    → get_or (padded 8 (map triple (found n))) 0 [] ≡ triple n
unfolding padded
first-padded n (inl e) = rw e
first-padded n (inr p) = rw (ne_eqb n.number 0 (omega arith))

if-used : (n : Observation) → if_used (triple n) ≡ map triple (found n)
if-used n = by-test (eqb n.number 0) (λ e. rw e) (λ e. rw e)

module _ (cat : ℕ → ℕ) (b m : ℕ) (G : List Observation) (st : List ℕ) (s : Stand cat b m G st) (r : Right G) (i : ℕ)
    (h : i < m) where
  pub first-row : is_condition cat i ≡ false → item_row st b m i ≡ triple (newest i G)
  unfolding table_rows
  first-row c =
      ap (λ (rs : List (List ℕ)). get_or rs 0 []) (s i h) ∙ rw (entries-plain (cat i) i G c)
      (first-padded (newest i G) (newest-or-nothing i G r))

  module _ (c : is_condition cat i ≡ true) (few : length (standing i G) ≤ 8) where
    pub rows_are : item_rows st b m i ≡ padded 8 (map triple (shown (standing i G) (newest i G)))
    rows_are = s i h ∙ ap (λ (es : List Observation). padded 8 (map triple es)) (entries-condition (cat i) i G c)

    pub used-are : used_rows (item_rows st b m i) ≡ map triple (shown (standing i G) (newest i G))
    used-are = ap used_rows rows_are ∙ used-shown i (newest i G) (standing i G) (sound-item i G r) few

    pub form-ok : (least : ℕ) → least ≤ length (map triple (shown (standing i G) (newest i G)))
        → form_ok i least (item_rows st b m i) ≡ true
    form-ok least l = rw rows_are (form-shown i (newest i G) least (standing i G) (sound-item i G r) few l)

-- an item with an observation shows something
some-entries : (S : List Observation) (n : Observation) → 0 < n.number → 1 ≤ length (map triple (shown S n))
some-entries [] n p = rw (ne_eqb n.number 0 (omega arith)) (omega arith)
some-entries (x ∷ S) n p = omega arith

-- what condition item i shows of G
abbrev pub showing : ℕ → List Observation → List (List ℕ)
showing i G = map triple (shown (standing i G) (newest i G))

module _ (cat : ℕ → ℕ) (N m B : ℕ) (H : List Observation) (st : List ℕ) (R : Rep cat N m B H st) where
  entry_at : (j : ℕ) → j < length H → length H ≤ j + N → entry N B st (B + j) ≡ pair (get_or H j nothing)
  entry_at j h l =
      let q : B + j - B ≡ j = omega arith in
      rw q (R.ring j h (omega arith))

  item-at : (j : ℕ) → j < length H → length H ≤ j + N → item_at N B st (B + j) ≡ (get_or H j nothing).item
  item-at j h l =
      ap (λ (r : List ℕ). item_of (get_or r 1 0)) (entry_at j h l) ∙ item-coded (get_or H j nothing).item
      (get_or H j nothing).value (R.fits j h).1

  triple-at : (j : ℕ) → j < length H → length H ≤ j + N → (B + j) ∷ entry N B st (B + j) ≡ triple (get_or H j nothing)
  triple-at j h l = rw (entry_at j h l, numbered-at H B j R.numbered h)

  -- one number further
  next-number : (j : ℕ) → suc (B + j) ≡ B + suc j
  next-number j = omega arith

  one-less : (j k : ℕ) → j + suc k ≡ suc j + k
  one-less j k = omega arith

  one-taken : (j : ℕ) → j < length H → take (suc j) H ≡ take j H ++ (get_or H j nothing ∷ [])
  one-taken j h = take-suc H j nothing h

  pub ring-rows : (sel : ℕ) (k j : ℕ) → j + k ≤ length H → length H ≤ j + N
      → sample_rows N B st sel k (B + j) ≡ map triple (keep (λ o. bit sel o.item) (slice j (j + k) H))
  unfolding sample_rows pick_rows keep
  ring-rows sel zero j h l = rw (add-zero j, slice_empty j H)
  ring-rows sel (suc k) j h l =
      rw (
        item-at j (omega arith) l,
        triple-at j (omega arith) l,
        next-number j,
        ring-rows sel k (suc j) (omega arith) (omega arith),
        slice-cons j (j + suc k) H nothing (omega arith) h,
        one-less j k,
      )
      (cond_map triple (bit sel (get_or H j nothing).item) (get_or H j nothing)
      (keep (λ o. bit sel o.item) (slice (suc j) (suc j + k) H)))

  pub ring-ok : (k j : ℕ) → j + k ≤ length H → length H ≤ j + N → ring_ok N m B st k (B + j) ≡ true
  unfolding ring_ok every
  ring-ok zero j h l = refl
  ring-ok (suc k) j h l =
      rw (
        item-at j (omega arith) l,
        lt-ltb (get_or H j nothing).item m (R.fits j (omega arith)).0,
        next-number j,
        ring-ok k (suc j) (omega arith) (omega arith),
      )

  -- the fold over the ring is the fold over H
  entries_at : (i : ℕ) → is_condition cat i ≡ true → (k j : ℕ) → j + k ≤ length H → length H ≤ j + N
      → entries_in N B st i k (B + j) (showing i (take j H)) ≡ showing i (take (j + k) H)
  unfolding entries_in
  entries_at i c zero j h l = rw (add-zero j)
  entries_at i c (suc k) j h l =
      let o : Observation = get_or H j nothing in
      let t = one-taken j (omega arith) in
      let e : cond (eqb o.item i) (step i (showing i (take j H)) (triple o)) (showing i (take j H))
      ≡ showing i (take (suc j) H) =
      by-test (eqb o.item i)
      (λ f.
      rw (f, t)
      (step-entries i (take j H) o (right-take cat N m B H st R j) (R.few i j c)
      (eqb-true o.item i f, (right cat N m B H st R j (omega arith)).0, (right cat N m B H st R j (omega arith)).1)))
      (λ f. rw (f, t, standing-snoc (take j H) o i, newest-snoc (take j H) o i, f)) in
      rw (item-at j (omega arith) l, triple-at j (omega arith) l, next-number j, one-less j k)
      (ap (entries_in N B st i k (B + suc j)) e ∙ entries_at i c k (suc j) (omega arith) (omega arith))

  newest-at : (i k j : ℕ) → j + k ≤ length H → length H ≤ j + N
      → newest_in N B st i k (B + j) (triple (newest i (take j H))) ≡ triple (newest i (take (j + k) H))
  unfolding newest_in
  newest-at i zero j h l = rw (add-zero j)
  newest-at i (suc k) j h l =
      let o : Observation = get_or H j nothing in
      let t = one-taken j (omega arith) in
      let e : cond (eqb o.item i) (triple o) (triple (newest i (take j H))) ≡ triple (newest i (take (suc j) H)) =
      by-test (eqb o.item i) (λ f. rw (f, t, newest-snoc (take j H) o i, f))
      (λ f. rw (f, t, newest-snoc (take j H) o i, f)) in
      rw (item-at j (omega arith) l, triple-at j (omega arith) l, next-number j, one-less j k)
      (ap (newest_in N B st i k (B + suc j)) e ∙ newest-at i k (suc j) (omega arith) (omega arith))

  -- numbers counted from 0: the ring begins at length H - N, hi is a + 1
  module _ (hi : ℕ) (l : length H - N ≤ hi) (k : hi ≤ length H) where
    held-entries : (i : ℕ) → i < m → is_condition cat i ≡ true
        → held_entries N m B st (hi - (length H - N)) (B + (length H - N)) i ≡ showing i (take hi H)
    held-entries i h c =
        let q : length H - N + (hi - (length H - N)) ≡ hi = omega arith in
        rw (used-are cat (checkpoint_at N m) m (take (length H - N) H) st R.checkpoint
        (right-take cat N m B H st R (length H - N)) i h c (R.few i (length H - N) c))
        (entries_at i c (hi - (length H - N)) (length H - N) (omega arith) (omega arith)
        ∙ ap (λ (j : ℕ). showing i (take j H)) q)

    held_plain : (i : ℕ) → i < m → is_condition cat i ≡ false
        → newest_in N B st i (hi - (length H - N)) (B + (length H - N)) (item_row st (checkpoint_at N m) m i)
        ≡ triple (newest i (take hi H))
    held_plain i h c =
        let q : length H - N + (hi - (length H - N)) ≡ hi = omega arith in
        rw (first-row cat (checkpoint_at N m) m (take (length H - N) H) st R.checkpoint
        (right-take cat N m B H st R (length H - N)) i h c)
        (newest-at i (hi - (length H - N)) (length H - N) (omega arith) (omega arith)
        ∙ ap (λ (j : ℕ). triple (newest i (take j H))) q)

    held_rows : (i : ℕ) → i < m
        → snapshot_rows cat N m B st (hi - (length H - N)) (B + (length H - N)) i
        ≡ map triple (entries_of (cat i) i (take hi H))
    held_rows i h =
        by-test (is_condition cat i)
        (λ c. rw (c, held-entries i h c, entries-condition (cat i) i (take hi H) c))
        (λ c. rw (c, held_plain i h c, entries-plain (cat i) i (take hi H) c) (if-used (newest i (take hi H))))

    -- neither the forms nor nine entries are ever in the way
    held-ok : (i : ℕ) → i < m → is_condition cat i ≡ true
        → form_ok i 0 (item_rows st (checkpoint_at N m) m i)
        && leb (length (held_entries N m B st (hi - (length H - N)) (B + (length H - N)) i)) 8 ≡ true
    held-ok i h c =
        rw (
          form-ok cat (checkpoint_at N m) m (take (length H - N) H) st R.checkpoint
              (right-take cat N m B H st R (length H - N)) i h c (R.few i (length H - N) c) 0 (omega arith),
          held-entries i h c,
        )
        (le-leb _ 8 (shown-few i (newest i (take hi H)) (standing i (take hi H)) (R.few i hi c)))

  -- at: the rows that the reference model shows of H up to number a, and no refusal
  module _ (sel first a : ℕ) (e : first ≡ B + (length H - N)) (lo : first ≤ a) (hi : a < B + length H) where
    up-to : within 0 (suc a) H ≡ take (suc a - B) H
    up-to =
        let z : 0 - B ≡ 0 = omega arith in
        rw (within-slice H B 0 (suc a) R.numbered, z)

    count : suc a - first ≡ suc a - B - (length H - N)
    count = omega arith

    pub at_rows_lem : at_rows cat N m B st sel (suc a - first) first ≡ entries_rows cat m sel (within 0 (suc a) H)
    unfolding at_rows entries_rows
    at_rows_lem =
        rw (up-to, count, e)
        (flat-ext (bit sel) _ _ m 0 (λ i l h. held_rows (suc a - B) (omega arith) (omega arith) i (omega arith)))

    pub at_ok_lem : at_ok cat N m B st sel (suc a - first) first ≡ true
    unfolding at_ok
    at_ok_lem =
        rw (count, e)
        (every_of _ m 0
        (λ i l h.
        by-test (bit sel i && is_condition cat i)
        (λ t. rw t (held-ok (suc a - B) (omega arith) (omega arith) i (omega arith) (and_right (bit sel i) _ t)))
        (λ t. rw t)))

  -- current, where each item has an observation
  module _ (each : (i : ℕ) → i < m → 0 < (newest i H).number) where
    latest-rows : (i : ℕ) → i < m → latest_rows cat N m st i ≡ map triple (entries_of (cat i) i H)
    latest-rows i h =
        by-test (is_condition cat i)
        (λ c.
        rw (
          c,
          used-are cat (latest_at N) m H st R.latest (right cat N m B H st R) i h c
              (few-all cat N m B H st R i c),
          entries-condition (cat i) i H c,
        ))
        (λ c.
        rw (
          c,
          first-row cat (latest_at N) m H st R.latest (right cat N m B H st R) i h c,
          entries-plain (cat i) i H c,
          ne_eqb (newest i H).number 0 (omega (arith, each i h)),
        ))

    pub current-rows : (sel : ℕ) → current_rows cat N m st sel ≡ entries_rows cat m sel H
    unfolding current_rows entries_rows
    current-rows sel = flat-ext (bit sel) _ _ m 0 (λ i l h. latest-rows i (omega arith))

    pub latest-ok : (i : ℕ) → i < m → is_condition cat i ≡ true → form_ok i 1 (item_rows st (latest_at N) m i) ≡ true
    latest-ok i h c =
        form-ok cat (latest_at N) m H st R.latest (right cat N m B H st R) i h c (few-all cat N m B H st R i c) 1
        (some-entries (standing i H) (newest i H) (each i h))

    pub current-ok : (sel : ℕ) → current_ok cat N m st sel ≡ true
    unfolding current_ok
    current-ok sel =
        every_of _ m 0
        (λ i l h.
        by-test (bit sel i && is_condition cat i)
        (λ t. rw t (latest-ok i (omega arith) (and_right (bit sel i) _ t)))
        (λ t. rw t))

    -- observe: Same and 19 of a condition item
    module _ (i : ℕ) (h : i < m) (c : is_condition cat i ≡ true) (v : Value) (hv : Coded v) where
      latest-used : used_rows (item_rows st (latest_at N) m i) ≡ showing i H
      latest-used =
          used-are cat (latest_at N) m H st R.latest (right cat N m B H st R) i h c (few-all cat N m B H st R i c)

      newest-own : Own i (newest i H)
      newest-own =
          (sound-item i H (right cat N m B H st R)).new (ne_eqb (newest i H).number 0 (omega (arith, each i h)))

      pub same-is : takes 2 v ≡ true
          → repeats_in i (used_rows (item_rows st (latest_at N) m i)) (pack i v)
          ≡ same_standing (standing i H) (newest i H).value v
      same-is t =
          rw latest-used
          (same-triple i (standing i H) (newest i H) v (sound-item i H (right cat N m B H st R)) newest-own hv t)

      pub crowded-is : crowded i (used_rows (item_rows st (latest_at N) m i)) (pack i v)
          ≡ crowded_standing (standing i H) v
      crowded-is =
          rw latest-used (crowded-triple i (standing i H) (newest i H) v (sound-item i H (right cat N m B H st R)) hv)

  -- overwriting is never refused
  pub evict-ok : evict_ok cat N m B (B + length H) st ≡ true
  unfolding evict_ok
  evict-ok =
      by-test (leb N (B + length H - B))
      (λ e. rw e (go (omega (arith, leb-true))))
      (λ e. rw e)
    where
      lo : ℕ
      lo = length H - N

      o : Observation
      o = get_or H lo nothing

      go : N ≤ length H
          → ltb (item_at N B st (B + length H)) m
          && (not (is_condition cat (item_at N B st (B + length H)))
          || (form_ok (item_at N B st (B + length H)) 0 (item_rows st (checkpoint_at N m) m (item_at N B st (B + length H)))
          && leb
          (length
          (stepped st (checkpoint_at N m) m (item_at N B st (B + length H)) (overwritten N B st (B + length H)))) 8))
          ≡ true
      go n =
          let h : lo < length H = omega (arith, R.N-pos) in
          let t : take (suc lo) H ≡ take lo H ++ (o ∷ []) = take-suc H lo nothing h in
          rw (evicted-item cat N m B H st R n, evicted-row cat N m B H st R n, lt-ltb o.item m (R.fits lo h).0)
          (by-test (is_condition cat o.item)
          (λ c.
          rw (
            c,
            form-ok cat (checkpoint_at N m) m (take lo H) st R.checkpoint (right-take cat N m B H st R lo) o.item
                (R.fits lo h).0 c (R.few o.item lo c) 0 (omega arith),
            used-are cat (checkpoint_at N m) m (take lo H) st R.checkpoint (right-take cat N m B H st R lo)
                o.item (R.fits lo h).0 c (R.few o.item lo c),
            step-entries o.item (take lo H) o (right-take cat N m B H st R lo) (R.few o.item lo c)
                (refl, (right cat N m B H st R lo h).0, (right cat N m B H st R lo h).1),
            sym t,
          )
          (le-leb _ 8
          (shown-few o.item (newest o.item (take (suc lo) H)) (standing o.item (take (suc lo) H))
          (R.few o.item (suc lo) c))))
          (λ c. rw c))
