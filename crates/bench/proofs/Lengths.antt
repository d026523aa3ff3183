-- The words that a request's answer and reply count as the reply's are words of the buffer.
use Prim.Native.Nat.{ℕ, suc, ◌+◌, ◌-◌, ◌*◌, ◌≤◌}
use mathlib.Core.Path.{◌≡◌}
use mathlib.Core.Bool.{Bool, true, false, cond, ◌&&◌}
use mathlib.Core.List.{List}
use native.Mathlib.Omega.{arith}
use lib.Dec.{leb, ltb, eqb}
use lib.ListN.{length, length-append}
use borrow.Author.Tests.{leb-true, eqb-false, eq-eqb, ne_eqb}
use Rattle.spec.specs.Model.{items, category, model_ok}
use Rattle.spec.specs.Text.{Request, Reading, read_text}
use Rattle.spec.specs.Text.Request.{sample, current, current_at, assets, all_assets}
use Rattle.spec.specs.Text.Reading.{unread, asked}
use Rattle.spec.specs.Path.{select}
use Rattle.history.specs.Observations.{ring_size, base, last, head_ok, ring_ok, sample_rows, current_ok}
use Rattle.history.specs.Observations.{current_rows, at_ok, at_rows}
use Rattle.spec.specs.Assets.{capacity, used, asset_head_ok, length_at, length_ok}
use Rattle.spec.specs.Reply.{Replied, refuse, numbers, pairs, lengths, observation_words, asset_words, written}
use Rattle.spec.specs.Reply.{observation_reply, asset_reply}
use Rattle.history.specs.Calls.{unless, in_range, first, start_of, default_count, count_or, end_of, sample_between}
use Rattle.history.specs.Calls.{sample_reply}
use Rattle.history.specs.Calls.{current_reply, current_up_to, at_reply, cell_rows, all_cells, cells_reply, find_all}
use Rattle.history.specs.Calls.{named_reply, answer_request, answer_reading, request}
use Rattle.spec.specs.declared.Refusal.{Refusal}
use Rattle.spec.specs.declared.Refusal.TheVariants.{Model, Store, TooMany, AssetNotFound}
use Rattle.std.specs.Prelude.{Ok, Err, Option, Some, None}
use Rattle.spec.specs.Answers.{Verdict}
use Rattle.spec.proofs.Words.{by_cond}
use Rattle.bench.specs.Print.{words_of, reply_length}
use Rattle.spec.proofs.Reply.{length-numbers, length_pairs, length-lengths}

-- the words that are shown are words of the buffer
pub record Within (b : List ℕ) (r : Replied) : Type 0 where
  pub fits : reply_length r.answer r.reply ≤ length b

-- a refusal shows none
none : (x : Refusal) (b : List ℕ) → Within b (refuse x b)
none x b = record { fits = omega arith }

-- what holds of both branches holds of the choice
choice : {b : List ℕ} {x y : Replied} (t : Bool) → Within b x → Within b y → Within b (cond t x y)
choice true h g = h
choice false h g = g

observations-within : (first last next : ℕ) (rows : List (List ℕ)) (b : List ℕ) → 1 ≤ next
    → Within b (observation_reply first last next rows b)
unfolding observation_reply written observation_words
observations-within first last next rows b h =
    by_cond (Within b) (leb (length (observation_words first last next rows)) (length b)) _ _
    (λ e.
    let g = leb-true (length (observation_words first last next rows)) (length b) e in
    let n = length-append (numbers rows) (pairs rows) in
    record { fits = rw (ne_eqb next 0 (λ z. omega arith)) (omega (arith, length-numbers rows, length_pairs rows)) })
    (λ e. none _ b)

assets-within : (u A : ℕ) (rows : List (List ℕ)) (b : List ℕ) → Within b (asset_reply u A rows b)
unfolding asset_reply written asset_words
assets-within u A rows b =
    by_cond (Within b) (leb (length (asset_words u A rows)) (length b)) _ _
    (λ e.
    let g = leb-true (length (asset_words u A rows)) (length b) e in
    let n = length-append (numbers rows) (lengths rows) in
    record { fits = omega (arith, length-numbers rows, length-lengths rows) })
    (λ e. none _ b)

unless-within : {r : Replied} (v : Verdict) (b : List ℕ) → Within b r → Within b (unless v b r)
unless-within (Ok tt) b h = h
unless-within (Err x) b h = none x b

end-pos : (f count last : ℕ) → 1 ≤ end_of f count last
end-pos f count last =
    let h : 1 ≤ count_or count =
    by_cond (λ n. 1 ≤ n) (eqb count 0) default_count count (λ e. omega arith)
    (λ e. let h = eqb-false count 0 e in omega arith) in
    omega arith

module _ (m : ℕ) (st b : List ℕ) where
  sample-within : (from count : ℕ) (s : Option ℕ) → Within b (sample_reply m st from count b s)
  unfolding sample_reply sample_between
  sample-within from count None = none _ b
  sample-within from count (Some selection) =
      let f = start_of (first st) from in
      let e = end_of f count (last st) in
      unless-within
      (in_range (first st) (suc (last st)) f)
      b
      (choice
      (ring_ok (ring_size st) m (base st) st (e - f) f)
      (observations-within (first st) (last st) e (sample_rows (ring_size st) (base st) st selection (e - f) f) b
      (end-pos f count (last st)))
      (none Store b))

  current-within : (cat : ℕ → ℕ) (s : Option ℕ) → Within b (current_reply cat m st b s)
  unfolding current_reply
  current-within cat None = none _ b
  current-within cat (Some selection) =
      choice
      (current_ok cat (ring_size st) m st selection)
      (observations-within (first st) (last st) (suc (last st)) (current_rows cat (ring_size st) m st selection) b
      (omega arith))
      (none Store b)

  at-within : (cat : ℕ → ℕ) (number : ℕ) (s : Option ℕ) → Within b (at_reply cat m st number b s)
  unfolding at_reply current_up_to
  at-within cat number None = none _ b
  at-within cat number (Some selection) =
      let k = suc number - first st in
      unless-within
      (in_range (first st) (last st) number)
      b
      (choice
      (ring_ok (ring_size st) m (base st) st k (first st)
      && at_ok cat (ring_size st) m (base st) st selection k (first st))
      (observations-within (first st) (last st) (suc (last st))
      (at_rows cat (ring_size st) m (base st) st selection k (first st)) b (omega arith))
      (none Store b))

cells-within : (bs cells b : List ℕ) → Within b (cells_reply bs cells b)
unfolding cells_reply
cells-within bs cells b =
    choice (all_cells (λ i. length_ok (length_at bs i)) cells)
    (assets-within (used bs) (capacity bs) (cell_rows bs cells) b) (none Store b)

module _ (model names st bs b : List ℕ) where
  asked-within : (q : Request) → Within b (answer_request model names st bs b q)
  unfolding answer_request named_reply
  asked-within (sample path from count) =
      choice (ltb (ring_size st) count) (none TooMany b)
      (sample-within (items model) st b from count (select model names path))
  asked-within (current path) = current-within (items model) st b (category model) (select model names path)
  asked-within (current_at path number) = at-within (items model) st b (category model) number (select model names path)
  asked-within (assets ids) =
      choice (all_cells (λ i. ltb i (used bs)) (find_all bs ids)) (cells-within bs (find_all bs ids) b)
      (none AssetNotFound b)
  asked-within all_assets = cells-within bs _ b

  reading-within : (r : Reading) → Within b (answer_reading model names st bs b r)
  unfolding answer_reading
  reading-within (unread r) = none r b
  reading-within (asked q) = asked-within q

  pub request-within : (text : List ℕ) → Within b (request model names st bs text b)
  unfolding request
  request-within text =
      choice
      (model_ok model names)
      (choice (head_ok (items model) st && asset_head_ok bs) (reading-within (read_text text)) (none Store b))
      (none Model b)

-- ---- the count of the words, of few rows

-- the words of few rows are few
pub few-cells : (next k : ℕ) → words_of next k ≤ 64 → next ≡ 0 → 4 + 2 * k ≤ 64
few-cells next k h e = rw (eq-eqb next 0 e) at h

pub few-rows : (next k : ℕ) → words_of next k ≤ 64 → (next ≡ 0 → ⊥) → 4 + 3 * k ≤ 64
few-rows next k h e = rw (ne_eqb next 0 e) at h
