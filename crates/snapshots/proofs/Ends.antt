-- The pass's answer and its marks are those of current with at: the refusal Store over ring, forms and entries, and the rows.
use Prim.Native.Nat.{ℕ, zero, suc, ◌+◌, ◌^◌, ◌≤◌, ◌<◌}
use mathlib.Core.Path.{◌≡◌, refl, sym, ap, ◌∙◌}
use mathlib.Core.Bool.{Bool, true, false, ◌&&◌, ◌||◌, not, and-false, true≢false}
use mathlib.Core.List.{List}
use native.Mathlib.Omega.{arith}
use lib.Dec.{leb}
use lib.ListN.{length, get_or, replicate, length-replicate, get_or-replicate}
use Rattle.spec.specs.Words.{bit, every}
use Rattle.spec.specs.Model.{max_items}
use Rattle.spec.specs.Entries.{used_rows, form_ok}
use Rattle.history.specs.Observations.{Head, max_ring, ring_size, base, checkpoint_at, item_rows, item_row}
use Rattle.history.specs.Observations.{is_condition, ring_ok, held_entries, newest_in, if_used, at_rows, at_ok}
use Rattle.spec.proofs.Words.{by-test, and_left, and_right, not_so, every-at, every_of}
use Rattle.spec.proofs.Bits.{set-bit}
use Rattle.marks.specs.Marks.{eight_of}
use Rattle.rows.proofs.Flat.{flat-same}
use Rattle.snapshot_rows.specs.Held.{marked_rows, held_by}
use Rattle.picks.specs.Pass.{pass_marks, pass_ok, seen_from}
use Rattle.snapshots.specs.Snapshots.{steps_of, begun, forms_ok, settled}
use Rattle.snapshots.proofs.Held.{holding-rows, Held, held-end, others-end, length-passed, ok-is}
use Rattle.snapshots.proofs.Begun.{no_marks, first-holding, length-begun, begun-at, begun-others, zeros-eight}
use Rattle.snapshots.proofs.Settled.{zeros-low, seen_low, plain-first, plain_end, plain-marked}
use Rattle.snapshots.proofs.Settled.{settled_at, settled-others}

-- ---- runs of numbers

every-ext : (p q : ℕ → Bool) (n s : ℕ) → ((i : ℕ) → s ≤ i → i < s + n → p i ≡ q i) → every p n s ≡ every q n s
unfolding every
every-ext p q zero s h = refl
every-ext p q (suc n) s h =
    rw (h s (omega arith) (omega arith), every-ext p q n (suc s) (λ i l g. h i (omega arith) (omega arith)))

module _ (cat : ℕ → ℕ) (selection m : ℕ) (st : List ℕ) (f k : ℕ) (few : m ≤ max_items) where
  abbrev steps : ℕ
  steps = steps_of cat selection m

  abbrev rows_of : ℕ → List (List ℕ)
  rows_of i = item_rows st (checkpoint_at (ring_size st) m) m i

  abbrev entries₀ : ℕ → List (List ℕ)
  entries₀ i = used_rows (rows_of i)

  -- the marks behind begin and behind the pass, and the newest places
  abbrev marks₀ : List (List ℕ)
  marks₀ = begun steps m st m 0 no_marks

  abbrev marks₁ : List (List ℕ)
  marks₁ = pass_marks steps st f k f marks₀

  abbrev seen : List ℕ
  seen = seen_from st f k f (replicate {A = ℕ} max_items 0)

  steps-bit : (i : ℕ) → i < m → bit steps i ≡ bit selection i && is_condition cat i
  steps-bit i h = set-bit (λ i. bit selection i && is_condition cat i) m i h

  length-start : length marks₀ ≡ max_items
  length-start = length-begun steps m st m 0 no_marks ∙ length-replicate {A = List ℕ} max_items (replicate 8 0)

  start-zeros : (i : ℕ) → i < m → bit steps i ≡ false → eight_of marks₀ i ≡ replicate 8 0
  start-zeros i h b = begun-others steps m st m 0 no_marks i b ∙ zeros-eight i (omega arith)

  module _ (forms : forms_ok steps m st ≡ true) where
    form-at : (i : ℕ) → i < m → bit steps i ≡ true → form_ok i 0 (rows_of i) ≡ true
    unfolding forms_ok
    form-at i h b = rw b at (every-at _ m 0 i forms (omega arith) (omega arith))

    start-held : Held steps m st f few marks₀ entries₀
    start-held i h b =
        let n = length-replicate {A = List ℕ} max_items (replicate 8 0) in
        rw (begun-at steps m st m 0 no_marks i (omega arith) (omega arith) (omega (arith, n)) b)
        (first-holding m st f i (form-at i h b))

    -- the refusal Store
    pub pass-answers : pass_ok steps m st f k f marks₀
        ≡ ring_ok (ring_size st) m (base st) st k f && at_ok cat (ring_size st) m (base st) st selection k f
    unfolding at_ok
    pass-answers =
        ok-is steps m st f few k f marks₀ entries₀ length-start (omega arith) start-held
        ∙ ap (λ (x : Bool). ring_ok (ring_size st) m (base st) st k f && x) (every-ext _ _ m 0 same)
      where
        same : (i : ℕ) → 0 ≤ i → i < 0 + m
            → (not (bit steps i) || leb (length (held_entries (ring_size st) m (base st) st k f i)) 8)
            ≡ (not (bit selection i && is_condition cat i)
            || (form_ok i 0 (rows_of i) && leb (length (held_entries (ring_size st) m (base st) st k f i)) 8))
        same i l h =
            by-test (bit steps i)
            (λ b. rw (← steps-bit i (omega arith), b, form-at i (omega arith) b))
            (λ b. rw (← steps-bit i (omega arith), b))

    -- the rows
    module _ (ok : pass_ok steps m st f k f marks₀ ≡ true) (first : 1 ≤ f) where
      abbrev marks₂ : List (List ℕ)
      marks₂ = settled selection steps m st seen m 0 marks₁

      length-behind : length marks₁ ≡ max_items
      length-behind = length-passed steps m st f few k f marks₀ length-start

      condition-rows : (i : ℕ) → i < m → bit steps i ≡ true
          → marked_rows m st f marks₂ i ≡ held_entries (ring_size st) m (base st) st k f i
      condition-rows i h b =
          let v = held-end steps m st f few k f marks₀ entries₀ length-start (omega arith) start-held ok i h b in
          rw (settled-others selection steps m st seen m 0 marks₁ i (rw b (and-false (bit selection i))))
          (holding-rows m st f i v)

      plain-eight : (i : ℕ) → i < m → bit steps i ≡ false → eight_of marks₁ i ≡ replicate 8 0
      plain-eight i h b = others-end steps m st f few i h b k f marks₀ length-start (omega arith) ok ∙ start-zeros i h b

      plain_rows_lem : (i : ℕ) → i < m → bit selection i ≡ true → bit steps i ≡ false
          → marked_rows m st f marks₂ i
          ≡ if_used (newest_in (ring_size st) (base st) st i k f (item_row st (checkpoint_at (ring_size st) m) m i))
      plain_rows_lem i h s b =
          let w = replicate {A = ℕ} max_items 0 in
          let n : i < length w = omega (arith, length-replicate {A = ℕ} max_items 0) in
          let z = get_or-replicate {A = ℕ} max_items i 0 0 (omega arith) in
          let room : i < length marks₁ = omega (arith, length-behind) in
          let e = settled_at selection steps m st seen m 0 marks₁ i (omega arith) (omega arith) room (rw (s, b)) in
          rw (e, plain-eight i h b)
          (plain-marked m st f i _ ∙ plain_end m st f i k f w _ n (omega arith) first (rw z (plain-first m st f i)))

      pub pass-rows : held_by m st f marks₂ selection ≡ at_rows cat (ring_size st) m (base st) st selection k f
      unfolding held_by at_rows
      pass-rows =
          flat-same (bit selection) _ _ m 0
          (λ i l h s.
          let e : bit steps i ≡ is_condition cat i = steps-bit i (omega arith) ∙ rw s in
          by-test (is_condition cat i)
          (λ c. rw c (condition-rows i (omega arith) (e ∙ c)))
          (λ c. rw c (plain_rows_lem i (omega arith) s (e ∙ c))))

  -- a form is broken
  pub forms-answer : forms_ok steps m st ≡ false
      → false ≡ (ring_ok (ring_size st) m (base st) st k f && at_ok cat (ring_size st) m (base st) st selection k f)
  unfolding forms_ok at_ok
  forms-answer z =
      not_so (ring_ok (ring_size st) m (base st) st k f && at_ok cat (ring_size st) m (base st) st selection k f)
      (λ t.
      let all : at_ok cat (ring_size st) m (base st) st selection k f ≡ true =
      and_right (ring_ok (ring_size st) m (base st) st k f) (at_ok cat (ring_size st) m (base st) st selection k f) t in
      let each : forms_ok steps m st ≡ true =
      every_of _ m 0
      (λ i l h.
      by-test (bit steps i)
      (λ b.
      let w = rw (← steps-bit i (omega arith), b) at (every-at _ m 0 i all l h) in
      rw b (and_left (form_ok i 0 (rows_of i)) _ w))
      (λ b. rw b)) in
      true≢false (sym each ∙ z))

-- ---- what the calls answer, n being how many items the model has

-- the newest places make marks
pub seen-marks : (m : ℕ) (st : List ℕ) (f k : ℕ) {w x : List ℕ} → Head m st → k ≤ ring_size st
    → w ≡ replicate max_items 0 → x ≡ seen_from st f k f w → (i : ℕ) → get_or x i 0 + 1 < 2 ^ 31
seen-marks m st f k h g ew ex i =
    let top = max_ring + 9 in
    let low = seen_low st f top k f (replicate max_items 0) (omega (arith, h.n_max)) (zeros-low top max_items) in
    rw (ex, ew) (omega (arith, low i))

module _ (cat : ℕ → ℕ) (selection m : ℕ) (st : List ℕ) (f k : ℕ) (few : m ≤ max_items)
    {n steps : ℕ} (en : n ≡ m) (es : steps ≡ steps_of cat selection m)
    {t : Bool} (et : t ≡ forms_ok steps n st) where
  pub hold-broken : t ≡ false
      → false ≡ (ring_ok (ring_size st) m (base st) st k f && at_ok cat (ring_size st) m (base st) st selection k f)
  hold-broken z = forms-answer cat selection m st f k few (rw (en, es) at (sym et ∙ z))

  module _ (z : t ≡ true) {o x : List (List ℕ)} (eo : o ≡ no_marks) (ex : x ≡ begun steps n st n 0 o)
      {u : Bool} (eu : u ≡ pass_ok steps n st f k f x) where
    formed : forms_ok (steps_of cat selection m) m st ≡ true
    formed = rw (en, es) at (sym et ∙ z)

    passed : u
        ≡ pass_ok (steps_of cat selection m) m st f k f
        (begun (steps_of cat selection m) m st m 0 no_marks)
    passed = eu ∙ rw (ex, eo, en, es)

    pub hold-answers : u
        ≡ (ring_ok (ring_size st) m (base st) st k f && at_ok cat (ring_size st) m (base st) st selection k f)
    hold-answers = passed ∙ pass-answers cat selection m st f k few formed

    pub hold-rows : {y v : List (List ℕ)} {w w' : List ℕ} → u ≡ true → 1 ≤ f → y ≡ pass_marks steps st f k f x
        → w ≡ replicate max_items 0 → w' ≡ seen_from st f k f w → v ≡ settled selection steps n st w' n 0 y
        → held_by m st f v selection ≡ at_rows cat (ring_size st) m (base st) st selection k f
    hold-rows a h ey ew ew' ev =
        rw (ev, ew', ew, ey, ex, eo, en, es) (pass-rows cat selection m st f k few formed (sym passed ∙ a) h)
