-- One call: where the stores stand for the reference model's state, the call answers as the reference model does, and the stores
-- it leaves stand for the state that the reference model is then in.
use mathlib.Core.Path.{◌≡◌, refl, sym, ap, ◌∙◌}
use mathlib.Core.Logic.{◌≢◌}
use mathlib.Core.Bool.{Bool, true, false, cond, ◌&&◌, not, true≢false, false≢true}
use Prim.Native.Nat.{ℕ, zero, suc, ◌+◌, ◌-◌, ◌^◌, ◌≤◌, ◌<◌}
use native.Mathlib.Omega.{arith}
use mathlib.Core.List.{List, [], ◌∷◌, ◌++◌, map}
use lib.Dec.{leb, ltb, eqb}
use lib.ListN.{length, get_or, length-append, get_or-eq_default}
use borrow.Author.Tests.{ltb-true, ltb-false, leb-true, eqb-true, eqb-false, lt-ltb, le-leb, lt-leb}
use Rattle.spec.specs.Words.{bit}
use Rattle.spec.specs.Value.{takes, repeats, pack, Fits}
use Rattle.spec.specs.Model.{items, category, change_item, has_change, model_ok}
use Rattle.spec.specs.Text.{Request, Reading, read_text}
use Rattle.spec.specs.Text.Request.{sample, current, current_at, assets, all_assets}
use Rattle.spec.specs.Text.Reading.{unread, asked}
use Rattle.spec.specs.Path.{select}
use Rattle.history.specs.Observations.{max_ring, last, store_words, latest_at, head_ok, add, item_row, is_condition}
use Rattle.history.specs.Observations.{evict_ok, latest_ok, repeats_at, crowded_at, ring_ok, sample_rows, at_ok, at_rows}
use Rattle.spec.specs.Assets.{max_body, used, asset_head_ok, asset_ok, id_ok, body_ok, cell_for, store_cells, length_at}
use Rattle.spec.specs.Assets.{length_ok, body_start, body_place, part}
use Rattle.spec.specs.Reply.{Replied, refuse, asset_reply}
use Rattle.history.specs.Calls.{Observed, Kept, room_for, observe_by, time_or, observe_item, keep_by, keep_asset, unless}
use Rattle.history.specs.Calls.{in_range, sample_between, sample_reply, current_reply, current_up_to, at_reply, cell_rows}
use Rattle.history.specs.Calls.{all_cells, cells_reply, named_reply, down_from, answer_request, answer_reading}
use Rattle.history.specs.Calls
use Rattle.history.specs.Standing.{standing, entries_rows, crowded_standing}
use Rattle.history.specs.Reference.{State, Observation, Held, nothing, newest_or, newest, last_of, first_of, within}
use Rattle.history.specs.Reference.{keep, triple, eq_value, same_value, crowded_value, spent, observe_answer}
use Rattle.history.specs.Reference.{observe_next, with_one, place, assets_after, store_answer, store_next, sample_start}
use Rattle.history.specs.Reference.{sample_end, sample_for, current_for, at_for, selected, content_at, held_rows, all_held}
use Rattle.history.specs.Reference.{places_of, newest_first, reply_to, reply_reading, body_of}
use Rattle.history.specs.Reference
use Rattle.spec.specs.declared.Value.{Value}
use Rattle.spec.specs.declared.Value.TheVariants.{Event}
use Rattle.spec.specs.declared.Refusal.TheVariants.{Spent, TooMany, InvalidXpath, Late, Early}
use Rattle.std.specs.Prelude.{Ok, Err, Option, Some, None}
use Rattle.spec.specs.Answers.{Answer, ObserveAnswer}
use Rattle.spec.specs.declared.Noted.TheVariants.{Recorded}
use Rattle.spec.proofs.Words.{and_left, and_right, by_cond, leb-not, by-test}
use Rattle.std.proofs.lemmas.Bool.{and_from}
use Rattle.spec.proofs.Packing.{Coded, taken-coded}
use Rattle.history.proofs.Compared.{compare-coded}
use Rattle.spec.proofs.Model.{checked}
use Rattle.history.proofs.Observations.{head_ok_lem}
use Rattle.history.proofs.Recorded.{last_or-some, newest_or-append, newest_or-item, newest-snoc, within-slice}
use Rattle.history.proofs.Kept.{Rep, right, next, add-rep}
use Rattle.history.proofs.Rows.{ring-rows, ring-ok, evict-ok, at_rows_lem, at_ok_lem, current-rows, current-ok, latest-ok}
use Rattle.history.proofs.Rows.{first-row, same-is, crowded-is}
use Rattle.history.proofs.Encoding.{Storable, AllStorable, Stands, encode, find-is, find-all, store-cells, cell-is}
use Rattle.history.proofs.Encoding.{length-at, length-ok, part-is, asset-heads}

-- ---- the relation

-- the stores stand for p: st its H, and the bytes below its T
pub record Good (model names : List ℕ) (p : State) (st : List ℕ) : Type 0 where
  pub right : model_ok model names ≡ true
  pub rep : Rep (category model) p.N (items model) p.B p.H st
  pub each : (i : ℕ) → i < items model → (newest i p.H).item ≡ i
  pub given : (i : ℕ) → i < items model → 0 < (newest i p.H).number
  pub size : p.N ≤ max_ring
  pub all : items model ≤ length p.H
  pub top : p.B + length p.H ≤ 9223372036854775808
  pub A-low : 0 < p.A
  pub A-high : p.A ≤ 128
  pub room : length p.T ≤ p.A
  pub held : AllStorable p.T

abbrev pub bytes : State → List ℕ
bytes p = encode p.A p.T

-- ---- two decisions agree where their tests do

module _ {A B : Type 0} (P : A → B → Type 0) where
  same_test : (t u : Bool) {x y : A} {x' y' : B} → t ≡ u → (t ≡ true → P x x') → (t ≡ false → P y y') → P (cond t x y) (cond u x' y')
  same_test true true e f g = f refl
  same_test true false e f g = absurd (true≢false e)
  same_test false true e f g = absurd (false≢true e)
  same_test false false e f g = g refl

  -- the second asks the other way round
  pub other_test : (t u : Bool) {x y : A} {x' y' : B} → u ≡ not t → (t ≡ true → P x y') → (t ≡ false → P y x')
      → P (cond t x y) (cond u x' y')
  other_test true true e f g = absurd (true≢false e)
  other_test true false e f g = f refl
  other_test false true e f g = g refl
  other_test false false e f g = absurd (false≢true e)

-- "unless b" as the stores' calls say it, and as the reference model does
unless-is : (b c : Bool) → (not b && c) ≡ cond b false c
unless-is true c = refl
unless-is false c = refl

-- what holds of each observation, and of d, holds of the newest
newest-of : (P : Observation → Type 0) (H : List Observation) (d : Observation) (i : ℕ) → P d
    → ((k : ℕ) → k < length H → P (get_or H k nothing)) → P (newest_or d i H)
unfolding newest_or
newest-of P [] d i hd h = hd
newest-of P (o ∷ H) d i hd h = newest-of P H (cond (eqb o.item i) o d) i (go (eqb o.item i)) (λ k l. h (suc k) (omega arith))
  where
    go : (t : Bool) → P (cond t o d)
    go true = h 0 (omega arith)
    go false = hd

-- ---- replies agree where they are in range

range-agree : (low high n : ℕ) (reply : List ℕ) (r r' : Replied) → (low ≤ n → n ≤ high → r ≡ r')
    → unless (in_range low high n) reply r
    ≡ cond (ltb n low) (refuse Late reply) (cond (ltb high n) (refuse Early reply) r')
unfolding in_range
range-agree low high n reply r r' h = go (ltb n low) refl (ltb high n) refl
  where
    go : (a : Bool) → ltb n low ≡ a → (b : Bool) → ltb high n ≡ b
        → unless (cond a (Err Late) (cond b (Err Early) (Ok tt))) reply r
        ≡ cond a (refuse Late reply) (cond b (refuse Early reply) r')
    go true e b f = refl
    go false e true f = refl
    go false e false f = h (ltb-false n low e) (ltb-false high n f)

-- ---- one call

module _ (model names : List ℕ) (p : State) (st : List ℕ) (G : Good model names p st) where
  pub last-is : suc (last_of p) ≡ p.B + length p.H
  last-is = last_or-some p.H p.B 0 G.rep.numbered (omega (arith, (checked model names G.right).sizes.m_pos, G.all))

  pub store-last : last st ≡ last_of p
  store-last = omega (arith, last-is, G.rep.last)

  pub right-head : head_ok (items model) st ≡ true
  right-head =
      head_ok_lem
      (record {
        n_pos = omega (arith, G.rep.cap, G.rep.N-pos);
        n_max = omega (arith, G.rep.cap, G.size);
        m_is = G.rep.items;
        b_pos = omega (arith, G.rep.base, G.rep.B-pos);
        b_last = omega (arith, G.rep.base, G.rep.last, G.all);
        last_max = omega (arith, G.rep.last, G.top);
        len = G.rep.words ∙ ap (λ (n : ℕ). store_words n (items model)) (sym G.rep.cap);
      })

  pub right-assets : asset_head_ok (bytes p) ≡ true
  right-assets = asset-heads p.A p.T G.A-low G.A-high G.room G.held

  -- the entry about to be overwritten is one of H
  entry-right : evict_ok (category model) p.N (items model) p.B (suc (last_of p)) st ≡ true
  entry-right = rw last-is (evict-ok (category model) p.N (items model) p.B p.H st G.rep)

  -- 6 is the only refusal of a number
  room-is : room_for (category model) (items model) st ≡ cond (spent p) (Err Spent) (Ok tt)
  unfolding room_for
  room-is =
      rw (G.rep.cap, G.rep.base, store-last, entry-right)
      (ap (λ (t : Bool). cond t (Err Spent) (Ok tt)) (go (eqb (last_of p) 9223372036854775807) refl))
    where
      go : (t : Bool) → eqb (last_of p) 9223372036854775807 ≡ t → leb 9223372036854775807 (last_of p) ≡ t
      go true e = le-leb 9223372036854775807 (last_of p) (omega (arith, eqb-true (last_of p) 9223372036854775807 e))
      go false e =
          let n : last_of p ≢ 9223372036854775807 = eqb-false (last_of p) 9223372036854775807 e in
          lt-leb 9223372036854775807 (last_of p) (omega (arith, last-is, G.top))

  -- ---- what a call leaves

  -- an observation is added, and the assets become T'
  grown : (item time : ℕ) (v : Value) (T' : List Held) → item < items model → Coded v
      → (is_condition (category model) item ≡ true → crowded_standing (standing item p.H) v ≡ false) → spent p ≡ false
      → length T' ≤ p.A → AllStorable T'
      → Good model names (record { N = p.N; A = p.A; B = p.B; H = with_one p (suc (last_of p)) item time v; T = T' })
      (add (category model) p.N (items model) p.B (suc (last_of p)) item time (pack item v) st)
  grown item time v T' hi hv hc hs hA hT =
      let o : Observation = next p.B p.H item time v in
      let len : length (p.H ++ (o ∷ [])) ≡ suc (length p.H) = omega (arith, length-append p.H (o ∷ [])) in
      let n : last_of p ≢ 9223372036854775807 = eqb-false (last_of p) 9223372036854775807 hs in
      let t : p.B + suc (length p.H) ≤ 9223372036854775808 = omega (arith, last-is, G.top) in
      rw last-is
      (record {
        right = G.right;
        rep = add-rep (category model) p.N (items model) p.B p.H st item time v G.rep hi hv hc;
        each = λ i h. rw (newest_or-append p.H (o ∷ []) nothing i) (newest_or-item (o ∷ []) (newest i p.H) i (G.each i h));
        given =
            λ i h.
            rw (newest-snoc p.H o i)
            (by_cond (λ x. 0 < x.number) (eqb item i) o _ (λ e. omega (arith, G.rep.B-pos)) (λ e. G.given i h));
        size = G.size;
        all = omega (arith, len, G.all);
        top = omega (arith, len);
        A-low = G.A-low;
        A-high = G.A-high;
        room = hA;
        held = hT;
      })

  -- only the assets change
  restored : (T' : List Held) → length T' ≤ p.A → AllStorable T' → Good model names (record { N = p.N; A = p.A; B = p.B; H = p.H; T = T' }) st
  restored T' hA hT =
      record {
        right = G.right;
        rep = G.rep;
        each = G.each;
        given = G.given;
        size = G.size;
        all = G.all;
        top = G.top;
        A-low = G.A-low;
        A-high = G.A-high;
        room = hA;
        held = hT;
      }

  -- ---- observe

  -- outcome and answer agree, and the stores left stand for the state left
  abbrev ObserveAgree : ℕ → ℕ → ℕ → Value → Observed → ObserveAnswer → Type 0
  ObserveAgree item time host v o a = (o.answer ≡ a) × Good model names (observe_next a p item time host v) o.observations

  newest-coded : (i : ℕ) → Coded (newest i p.H).value
  newest-coded i = newest-of (λ o. Coded o.value) p.H nothing i tt (λ k l. (G.rep.fits k l).1)

  -- Same, of an item that is no condition item
  same-plain : (k item : ℕ) (v : Value) → item < items model → Coded v → is_condition (category model) item ≡ false
      → repeats k (get_or (item_row st (latest_at p.N) (items model) item) 2 0) (pack item v)
      ≡ cond (eqb k 4) false (eq_value (newest item p.H).value v)
  unfolding repeats
  same-plain k item v h hv c =
      rw (
        first-row (category model) (latest_at p.N) (items model) p.H st G.rep.latest
            (right (category model) p.N (items model) p.B p.H st G.rep) item h c,
        G.each item h,
        compare-coded item (newest item p.H).value v (newest-coded item) hv,
      ) (unless-is (eqb k 4) _)

  module _ (item : ℕ) (v : Value) (h : item < items model) (hv : Coded v)
      (t : takes (category model item) v ≡ true) where
    -- the form of a latest is never in the way
    form-right : latest_ok (category model) p.N (items model) st item ≡ true
    unfolding latest_ok
    form-right =
        by-test (is_condition (category model) item)
        (λ c. rw (c, latest-ok (category model) p.N (items model) p.B p.H st G.rep G.given item h c))
        (λ c. rw c)

    taken : is_condition (category model) item ≡ true → takes 2 v ≡ true
    taken c = rw (eqb-true (category model item) 2 c) at t

    -- a condition item is not discrete
    not-four : is_condition (category model) item ≡ true → eqb (category model item) 4 ≡ false
    not-four c = rw (eqb-true (category model item) 2 c)

    same-value :
        repeats_at (category model) p.N (items model) st item (pack item v)
        ≡ same_value (category model item) item p.H v
    unfolding repeats_at
    same-value =
        by-test (is_condition (category model) item)
        (λ c.
        rw (
          c,
          not-four c,
          same-is (category model) p.N (items model) p.B p.H st G.rep G.given item h c v hv (taken c),
        ))
        (λ c. rw (c, same-plain (category model item) item v h hv c))

    crowded-value :
        crowded_at (category model) p.N (items model) st item (pack item v)
        ≡ crowded_value (category model item) item p.H v
    unfolding crowded_at
    crowded-value =
        by-test (is_condition (category model) item)
        (λ c.
        rw (c, crowded-is (category model) p.N (items model) p.B p.H st G.rep G.given item h c v hv))
        (λ c. rw c)

  record-agree : (item time host : ℕ) (v : Value) → item < items model → Coded v
      → (is_condition (category model) item ≡ true → crowded_standing (standing item p.H) v ≡ false)
      → (t : Bool) → spent p ≡ t
      → ObserveAgree item time host v
      (observe_by (cond t (Err Spent) (Ok tt)) (category model) (items model) st item (time_or time host) (pack item v))
      (cond t (Err Spent) (Ok (Recorded (suc (last_of p)))))
  record-agree item time host v h hv hc true e = (refl, G)
  record-agree item time host v h hv hc false e =
      rw (G.rep.cap, G.rep.base, store-last)
      (refl, grown item (time_or time host) v p.T h hv hc e G.room G.held)

  pub observe-agree : (item time host : ℕ) (v : Value) → Fits v
      → ObserveAgree item time host v (Calls.observe model names st item time host v) (observe_answer model names p item v)
  unfolding Calls.observe observe_item observe_answer
  observe-agree item time host v fv =
      rw (G.right, right-head, room-is)
      (other_test (ObserveAgree item time host v) (ltb item (items model)) (leb (items model) item) (leb-not (items model) item)
      (λ h.
      other_test (ObserveAgree item time host v) (takes (category model item) v) (not (takes (category model item) v)) refl
      (λ t.
      let hi : item < items model = ltb-true item (items model) h in
      let hv : Coded v = taken-coded (category model item) v t fv in
      rw (G.rep.cap, form-right item v hi hv t)
      (same_test (ObserveAgree item time host v)
      (repeats_at (category model) p.N (items model) st item (pack item v))
      (same_value (category model item) item p.H v) (same-value item v hi hv t)
      (λ e. (refl, G))
      (λ e.
      same_test (ObserveAgree item time host v) (crowded_at (category model) p.N (items model) st item (pack item v))
      (crowded_value (category model item) item p.H v) (crowded-value item v hi hv t)
      (λ f. (refl, G))
      (λ f. record-agree item time host v hi hv (λ c. rw c at (sym (crowded-value item v hi hv t) ∙ f))
      (spent p) refl))))
      (λ t. (refl, G)))
      (λ h. (refl, G)))

  -- ---- store-asset

  abbrev KeepAgree : List ℕ → List ℕ → ℕ → Kept → Answer → Type 0
  KeepAgree id content host o a =
      (o.answer ≡ a)
      × Good model names (store_next a model p id content host) o.observations
      × (o.assets ≡ bytes (store_next a model p id content host))

  module _ (id content : List ℕ) (host : ℕ) (ok : asset_ok id content ≡ true) where
    asset : Held
    asset = record { id = id; content = content }

    asset-ok : Storable asset
    unfolding asset_ok body_ok length_ok asset
    asset-ok =
        let b = and_right (id_ok id) _ ok in (
          and_left (id_ok id) _ ok,
          leb-true 1 (length content) (and_left (leb 1 (length content)) _ b),
          leb-true (length content) max_body (and_right (leb 1 (length content)) _ b),
        )

    stands : Stands p.A (store_cells id content (bytes p)) (assets_after p id content)
    unfolding asset
    stands = store-cells p.A asset p.T G.A-low G.room asset-ok G.held

    cell-of : cell_for id (bytes p) ≡ length (assets_after p id content) - 1
    unfolding asset
    cell-of = cell-is p.A asset p.T G.A-low G.room asset-ok G.held

    -- an asset's cell is a code
    code_ok : length (assets_after p id content) - 1 < 2 ^ 32
    code_ok = omega (arith, stands.1, G.A-high)

    -- with an item of category 3
    change-agree : has_change model ≡ true → (t : Bool) → spent p ≡ t
        → KeepAgree id content host (keep_by (cond t (Err Spent) (Ok tt)) model st (bytes p) id content host)
        (cond t (Err Spent) (Ok (length (assets_after p id content) - 1)))
    change-agree c true e = (refl, G, refl)
    change-agree c false e =
        rw (cell-of, c, G.rep.cap, G.rep.base, store-last) (
          refl,
          grown (change_item model) host (Event (length (assets_after p id content) - 1)) (assets_after p id content)
              (ltb-true (change_item model) (items model) c) code_ok (λ k. refl) e stands.1 stands.2,
          stands.0,
        )

    kept-agree : (c : Bool) → has_change model ≡ c
        → KeepAgree id content host
        (cond c (keep_by (cond (spent p) (Err Spent) (Ok tt)) model st (bytes p) id content host)
        (record { answer = Ok (cell_for id (bytes p)); observations = st; assets = store_cells id content (bytes p) }))
        (cond (c && spent p) (Err Spent) (Ok (length (assets_after p id content) - 1)))
    kept-agree true e = change-agree e (spent p) refl
    kept-agree false e = rw (cell-of, e) (refl, restored (assets_after p id content) stands.1 stands.2, stands.0)

  pub store-agree : (id content : List ℕ) (host : ℕ)
      → KeepAgree id content host (Calls.store_asset model names st (bytes p) id content host) (store_answer model names p id content)
  unfolding Calls.store_asset keep_asset store_answer
  store-agree id content host =
      rw (G.right, right-head, right-assets, room-is)
      (other_test (KeepAgree id content host) (asset_ok id content) (not (asset_ok id content)) refl
      (λ ok. kept-agree id content host ok (has_change model) refl)
      (λ ok. (refl, G, refl)))

  -- ---- request

  sample-rows : (sel f e : ℕ) → first_of p ≤ f → f ≤ e → e ≤ suc (last_of p)
      → (ring_ok p.N (items model) p.B st (e - f) f ≡ true)
      × (sample_rows p.N p.B st sel (e - f) f ≡ map triple (keep (λ o. bit sel o.item) (within f e p.H)))
  sample-rows sel f e lo le hi =
      let q : p.B + (f - p.B) ≡ f = omega arith in
      let q' : (f - p.B) + (e - f) ≡ e - p.B = omega arith in
      let h : (f - p.B) + (e - f) ≤ length p.H = omega (arith, last-is) in
      let l : length p.H ≤ (f - p.B) + p.N = omega (arith, last-is) in (
        rw q at (ring-ok (category model) p.N (items model) p.B p.H st G.rep (e - f) (f - p.B) h l),
        rw (within-slice p.H p.B f e G.rep.numbered, sym q')
            (rw q at (ring-rows (category model) p.N (items model) p.B p.H st G.rep sel (e - f)
            (f - p.B) h l)),
      )

  sample-agree : (sel from count : ℕ) (reply : List ℕ)
      → sample_reply (items model) st from count reply (Some sel) ≡ sample_for p sel (sample_start p from) (sample_end p (sample_start p from) count) reply
  unfolding sample_reply sample_between sample_for
  sample-agree sel from count reply =
      rw (G.rep.cap, G.rep.base, store-last)
      (range-agree (first_of p) (suc (last_of p)) (sample_start p from) reply _ _
      (λ lo hi.
      let g = sample-rows sel (sample_start p from) (sample_end p (sample_start p from) count) lo (omega arith) (omega arith) in
      rw (g.0, g.1)))

  found_rows : (sel a : ℕ) → first_of p ≤ a → a ≤ last_of p
      → (ring_ok p.N (items model) p.B st (suc a - first_of p) (first_of p) ≡ true)
      × (at_ok (category model) p.N (items model) p.B st sel (suc a - first_of p) (first_of p) ≡ true)
      × (at_rows (category model) p.N (items model) p.B st sel (suc a - first_of p) (first_of p)
      ≡ entries_rows (category model) (items model) sel (within 0 (suc a) p.H))
  found_rows sel a lo hi =
      let e : first_of p ≡ p.B + (length p.H - p.N) = omega (arith, last-is) in (
        rw e
            (ring-ok (category model) p.N (items model) p.B p.H st G.rep
            (suc a - (p.B + (length p.H - p.N))) (length p.H - p.N) (omega (arith, last-is)) (omega arith)),
        at_ok_lem (category model) p.N (items model) p.B p.H st G.rep sel (first_of p) a e lo
            (omega (arith, last-is)),
        at_rows_lem (category model) p.N (items model) p.B p.H st G.rep sel (first_of p) a e lo
            (omega (arith, last-is)),
      )

  at_agree : (sel number : ℕ) (reply : List ℕ)
      → at_reply (category model) (items model) st number reply (Some sel)
      ≡ at_for (category model) (items model) p sel number reply
  unfolding at_reply current_up_to at_for
  at_agree sel number reply =
      rw (G.rep.cap, G.rep.base, store-last)
      (range-agree (first_of p) (last_of p) number reply _ _
      (λ lo hi. let g = found_rows sel number lo hi in rw (g.0, g.1, g.2)))

  current-agree : (sel : ℕ) (reply : List ℕ)
      → current_reply (category model) (items model) st reply (Some sel)
      ≡ current_for (category model) (items model) p sel reply
  unfolding current_reply current_for
  current-agree sel reply =
      rw (
        G.rep.cap,
        G.rep.base,
        store-last,
        current-ok (category model) p.N (items model) p.B p.H st G.rep G.given sel,
        current-rows (category model) p.N (items model) p.B p.H st G.rep G.given sel,
      )

  -- ---- assets

  used-bytes : used (bytes p) ≡ length p.T
  unfolding encode
  used-bytes = refl

  lengths : (i : ℕ) → i < length p.T → (length_ok (length_at (bytes p) i) ≡ true) × (length_at (bytes p) i ≡ length (content_at p.T i))
  lengths i l = (length-ok p.A p.T i l G.room G.held, length-at p.A p.T i l G.room G.held)

  cells_agree : (is : List ℕ) → all_cells (λ i. ltb i (length p.T)) is ≡ true
      → (all_cells (λ i. length_ok (length_at (bytes p) i)) is ≡ true) × (cell_rows (bytes p) is ≡ held_rows p.T is)
  unfolding all_cells cell_rows held_rows
  cells_agree [] e = (refl, refl)
  cells_agree (i ∷ is) e =
      let l : i < length p.T = ltb-true i (length p.T) (and_left (ltb i (length p.T)) _ e) in
      let r = cells_agree is (and_right (ltb i (length p.T)) _ e) in
      (and_from (length_ok (length_at (bytes p) i)) _ (lengths i l).0 r.0, rw ((lengths i l).1, r.1))

  cells-reply : (is reply : List ℕ) → all_cells (λ i. ltb i (length p.T)) is ≡ true
      → cells_reply (bytes p) is reply ≡ asset_reply (length p.T) p.A (held_rows p.T is) reply
  unfolding cells_reply encode
  cells-reply is reply e = let r = cells_agree is e in rw (r.0, r.1)

  all_held_lem : (ids : List (List ℕ)) → all_cells (λ i. ltb i (length p.T)) (places_of p.T ids) ≡ all_held p.T ids
  unfolding all_cells places_of all_held
  all_held_lem [] = refl
  all_held_lem (id ∷ ids) = rw (all_held_lem ids)

  named-agree : (ids : List (List ℕ)) (reply : List ℕ) → named_reply (bytes p) ids reply ≡ reply_to model names p reply (assets ids)
  unfolding named_reply reply_to encode
  named-agree ids reply =
      rw (find-all p.A ids p.T G.held)
      (other_test (◌≡◌ {A = Replied}) (all_cells (λ i. ltb i (length p.T)) (places_of p.T ids)) (not (all_held p.T ids)) (ap not (sym (all_held_lem ids)))
      (λ e. cells-reply (places_of p.T ids) reply e)
      (λ e. refl))

  all-below : (n k : ℕ) → n ≤ k → all_cells (λ i. ltb i k) (newest_first n) ≡ true
  unfolding all_cells newest_first
  all-below zero k h = refl
  all-below (suc n) k h = and_from (ltb n k) _ (lt-ltb n k h) (all-below n k (omega arith))

  down_is : (n : ℕ) → down_from n ≡ newest_first n
  unfolding down_from newest_first
  down_is zero = refl
  down_is (suc n) = rw (down_is n)

  all-agree : (reply : List ℕ) → cells_reply (bytes p) (down_from (length p.T)) reply ≡ reply_to model names p reply all_assets
  unfolding reply_to
  all-agree reply = rw (down_is (length p.T)) (cells-reply (newest_first (length p.T)) reply (all-below (length p.T) (length p.T) (omega arith)))

  -- ---- a request, whatever its text

  -- 11 comes first of what follows the selection
  selected-agree : (s : Option ℕ) (reply : List ℕ) (f : Option ℕ → Replied) (g : ℕ → Replied) → f None ≡ refuse InvalidXpath reply
      → ((sel : ℕ) → f (Some sel) ≡ g sel) → f s ≡ selected s reply g
  selected-agree None reply f g e h = e
  selected-agree (Some sel) reply f g e h = h sel

  request-agree' : (reply : List ℕ) (q : Request) → answer_request model names st (bytes p) reply q ≡ reply_to model names p reply q
  unfolding answer_request reply_to sample_reply current_reply at_reply
  request-agree' reply (sample path from count) =
      rw G.rep.cap
      (ap (λ (r : Replied). cond (ltb p.N count) (refuse TooMany reply) r)
      (selected-agree (select model names path) reply (sample_reply (items model) st from count reply) _ refl (λ sel. sample-agree sel from count reply)))
  request-agree' reply (current path) =
      selected-agree (select model names path) reply (current_reply (category model) (items model) st reply) _ refl
      (λ sel. current-agree sel reply)
  request-agree' reply (current_at path number) =
      selected-agree (select model names path) reply (at_reply (category model) (items model) st number reply) _ refl
      (λ sel. at_agree sel number reply)
  request-agree' reply (assets ids) = named-agree ids reply
  request-agree' reply all_assets = rw (used-bytes) (all-agree reply)

  pub request-agree : (text reply : List ℕ) → Calls.request model names st (bytes p) text reply ≡ Reference.reply model names p text reply
  unfolding Calls.request Reference.reply answer_reading reply_reading
  request-agree text reply = rw (G.right, right-head, right-assets) (go (read_text text))
    where
      go : (q : Reading) → answer_reading model names st (bytes p) reply q ≡ reply_reading model names p reply q
      go (unread r) = refl
      go (asked q) = request-agree' reply q

  -- ---- body

  pub body-agree : (id : List ℕ) → Calls.body (bytes p) id ≡ body_of p id
  unfolding Calls.body body_place body_of
  body-agree id =
      rw (right-assets, used-bytes, find-is p.A id p.T G.held) (go (ltb (place id p.T) (length p.T)) refl)
    where
      i : ℕ
      i = place id p.T

      go : (t : Bool) → ltb i (length p.T) ≡ t
          → part (bytes p) (cond (t && length_ok (length_at (bytes p) i)) (Some (record { start = body_start (bytes p) i + 2; len = length_at (bytes p) i })) None)
          ≡ content_at p.T i
      go true e =
          let l : i < length p.T = ltb-true i (length p.T) e in
          rw ((lengths i l).0, (lengths i l).1) (part-is p.A p.T i l G.room G.held)
      go false e = sym (ap (λ (t : Held). t.content) (get_or-eq_default p.T (record { id = []; content = [] }) {n = i} (ltb-false i (length p.T) e)))
