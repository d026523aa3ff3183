-- Refusals: each of the twenty is given by some call, and no call answers 12; a refused call changes nothing. Of
-- whatever inputs.
use mathlib.Core.Path.{◌≡◌, refl}
use mathlib.Core.Bool.{◌&&◌}
use Prim.Native.Nat.{ℕ, suc, ◌-◌, ◌^◌}
use mathlib.Core.List.{List, [], ◌∷◌, ◌++◌}
use lib.IntN.{pos}
use lib.Dec.{leb, ltb}
use lib.ListN.{length, replicate}
use Rattle.std.specs.Prelude.{Result, Ok, Err}
use Rattle.spec.specs.Bytes.{bytes}
use Rattle.spec.specs.Value.{takes, pack}
use Rattle.spec.specs.Model.{items, category, has_change, model_ok}
use Rattle.spec.specs.Text.{read_text}
use Rattle.spec.specs.Path.{select}
use Rattle.history.specs.Observations.{ring_size, base, last, head_ok, ring_ok, current_ok, at_ok}
use Rattle.spec.specs.Assets.{used, length_at, asset_head_ok, asset_ok, cell_for, store_cells, length_ok}
use Rattle.spec.specs.Reply.{Replied, refuse, over, observation_words, written, observation_reply, asset_reply}
use Rattle.spec.specs.Answers.{Answer, Verdict, answer_number, observe_word, store_word}
use Rattle.spec.specs.Text.{Request, Reading}
use Rattle.spec.specs.Text.Request.{sample, current, current_at, assets, all_assets}
use Rattle.spec.specs.Text.Reading.{unread, asked}
use Rattle.history.specs.Calls.{time_or, Started, Observed, Answered, Batched, Kept, first, start_of, end_of, start_ok}
use Rattle.history.specs.Calls.{start_both, start, observe_all, admitted, batch_by, observe_batch, room_for, observe_by}
use Rattle.history.specs.Calls.{observe, keep_by, keep_asset, store_asset, unless, in_range, sample_between, sample_reply}
use Rattle.history.specs.Calls.{current_reply, current_up_to, at_reply, cell_rows, all_cells, cells_reply, find_all}
use Rattle.history.specs.Calls.{named_reply, answer_request, answer_reading, request}
use Rattle.history.specs.Calls.{observe_item, observe_reading, observe_line, write_line}
use Rattle.lines.specs.Stamps.{max_time}
use Rattle.lines.specs.Lines.{read_line, value_for, line_of}
use Rattle.lines.specs.declared.Line.{Line}
use Rattle.lines.specs.declared.LineError.{LineError}
use Rattle.lines.specs.declared.LineError.TheVariants.{Malformed, BadStamp}
use Rattle.cases.specs.Bench.{bench_model, bench_names}
use Rattle.spec.specs.declared.Record.{Record}
use Rattle.spec.specs.declared.Value.{Value}
use Rattle.spec.specs.declared.Level.TheVariants.{Fault}
use Rattle.spec.specs.declared.Value.TheVariants.{Sample, Condition}
use Rattle.spec.specs.declared.Refusal.{Refusal}
use Rattle.spec.specs.declared.Refusal.TheVariants.{Space}
use Rattle.std.specs.Prelude.{Ok, Err, Option, Some, None}
use Rattle.spec.proofs.Examples.{w}
use Rattle.cases.proofs.Opened.{opened}
use Rattle.cases.proofs.Fixtures.{no_assets, bench_store, alarm_model, alarm_names, eight_warnings}
use Rattle.spec.proofs.Words.{by_cond}
use Rattle.history.proofs.Heads.{item-cases}

-- ---- each refusal is given

-- a request of the bench case, into so many words
pub asks_in : ℕ → List ℕ → ℕ
asks_in words text = answer_number (request bench_model bench_names bench_store no_assets text (replicate words 0)).answer

pub asks : List ℕ → ℕ
asks text = asks_in 64 text

-- an observe of the bench case, as its word without 2^63
pub observes : ℕ → Value → ℕ
observes item v = observe_word (observe bench_model bench_names bench_store item 1 1 v).answer - 2 ^ 63

-- the same at the highest sequence number
pub spent_observe : ℕ
spent_observe =
    let st = (start bench_model bench_names (replicate 106 0) (replicate 546 0) 3 1 (2 ^ 63 - 2) 1000).observations in
    observe_word (observe bench_model bench_names st 1 1 1 (Sample (pos 5))).answer - 2 ^ 63

-- a ninth code, where eight stand
pub ninth_code : ℕ
ninth_code =
    let st : List ℕ = 1 ∷ 1 ∷ 1 ∷ 9 ∷ 90 ∷ w 8 ∷ (eight_warnings ++ replicate 24 0) in
    observe_word (observe alarm_model alarm_names st 0 1 1 (Condition Fault 9)).answer - 2 ^ 63

-- an adapter line of the bench case
pub reads_line : List ℕ → ℕ
reads_line line = observe_word (observe_line bench_model bench_names bench_store line 1).answer - 2 ^ 63

-- a record of item 0
abbrev unavailable : Record
unavailable = record { item = 0; time = 0; value = 0 }

-- the bench case's model with model [], a store [], N = 0, and so on
pub given : List ℕ
given =
    answer_number (request [] bench_names bench_store no_assets (bytes "/current") []).answer
    ∷ answer_number (request bench_model bench_names [] no_assets (bytes "/current") []).answer
    ∷ answer_number (start bench_model bench_names (replicate 106 0) (replicate 546 0) 0 1 1 1000).answer
    ∷ observes 2 (Sample (pos 5))
    ∷ observes 0 (Sample (pos 5))
    ∷ spent_observe
    ∷ asks (bytes "current")
    ∷ asks (bytes "/currents")
    ∷ asks (bytes "/probe")
    ∷ asks (bytes "/sample?count=4")
    ∷ asks (bytes "/current?path=//Spindle")
    ∷ asks (bytes "/asset/T1")
    ∷ (store_word (store_asset bench_model bench_names bench_store no_assets [] (1 ∷ []) 1).answer - 2 ^ 63)
    ∷ asks_in 1 (bytes "/current")
    ∷ answer_number (observe_batch bench_model bench_names bench_store (replicate 257 unavailable) 1 []).answer
    ∷ asks (bytes "/sample?from=1")
    ∷ asks (bytes "/sample?from=6")
    ∷ ninth_code
    ∷ reads_line (bytes "1|5")
    ∷ reads_line (bytes "2099-02-29T00:00:00.000Z|1|5")
    ∷ []

pub each-given :
    given
    ≡ 1 ∷ 2 ∷ 3 ∷ 4 ∷ 5 ∷ 6 ∷ 7 ∷ 8 ∷ 9 ∷ 10 ∷ 11 ∷ 13 ∷ 14 ∷ 15 ∷ 16 ∷ 17 ∷ 18 ∷ 19 ∷ 20 ∷ 21 ∷ []
unfolding asks_in asks observes spent_observe ninth_code reads_line given opened
each-given = refl

-- ---- a refused call changes nothing

abbrev KeepsStart : List ℕ → List ℕ → Started → Type 0
KeepsStart st bs o = (r : Refusal) → o.answer ≡ Err r → (o.observations ≡ st) × (o.assets ≡ bs)

pub start-keeps : (model names st bs : List ℕ) (N A B host : ℕ) → KeepsStart st bs (start model names st bs N A B host)
unfolding start start_both
start-keeps model names st bs N A B host =
    by_cond (KeepsStart st bs) (model_ok model names) _ _
    (λ h. by_cond (KeepsStart st bs) (start_ok (items model) N A B (length st) (length bs)) _ _ (λ g r e. (cc, cc)) (λ g r e. (refl, refl)))
    (λ h r e. (refl, refl))

abbrev KeepsObserve : List ℕ → Observed → Type 0
KeepsObserve st o = (r : Refusal) → o.answer ≡ Err r → o.observations ≡ st

observe-by : (x : Verdict) (cat : ℕ → ℕ) (m : ℕ) (st : List ℕ) (item time word : ℕ)
    → KeepsObserve st (observe_by x cat m st item time word)
observe-by (Ok tt) cat m st item time word r q = cc
observe-by (Err x) cat m st item time word r q = refl

item-keeps : (model st : List ℕ) (item time : ℕ) (v : Value) → KeepsObserve st (observe_item model st item time v)
item-keeps model st item time v =
    item-cases (KeepsObserve st) model st item time v (λ x r q. refl) (λ r q. refl)
    (λ l.
    observe-by (room_for (category model) (items model) st) (category model) (items model) st item time (pack item v))

pub observe-keeps : (model names st : List ℕ) (item time host : ℕ) (v : Value)
    → KeepsObserve st (observe model names st item time host v)
unfolding observe
observe-keeps model names st item time host v =
    by_cond (KeepsObserve st) (model_ok model names) _ _
    (λ a. by_cond (KeepsObserve st) (head_ok (items model) st) _ _
    (λ b. item-keeps model st item (time_or time host) v) (λ b r q. refl))
    (λ a r q. refl)

reading-observed : (model st : List ℕ) (host : ℕ) (l : Result Line LineError) → KeepsObserve st (observe_reading l model st host)
reading-observed model st host (Err Malformed) = λ r q. refl
reading-observed model st host (Err BadStamp) = λ r q. refl
reading-observed model st host (Ok l) =
    item-keeps model st l.item (time_or l.time host) (value_for (category model l.item) l.form)

pub line-keeps : (model names st text : List ℕ) (host : ℕ)
    → KeepsObserve st (observe_line model names st text host)
unfolding observe_line
line-keeps model names st text host =
    by_cond (KeepsObserve st) (model_ok model names) _ _
    (λ a. by_cond (KeepsObserve st) (head_ok (items model) st) _ _
    (λ b. reading-observed model st host (read_line text)) (λ b r q. refl))
    (λ a r q. refl)

abbrev KeepsBatch : List ℕ → List ℕ → Batched → Type 0
KeepsBatch st answers o = (r : Refusal) → o.answer ≡ Err r → (o.observations ≡ st) × (o.answers ≡ answers)

batch-by : (x : Answer) (q : Answered) (st answers : List ℕ) → KeepsBatch st answers (batch_by x q st answers)
batch-by (Ok n) q st answers r e = (cc, cc)
batch-by (Err x) q st answers r e = (refl, refl)

pub batch-keeps : (model names st : List ℕ) (records : List Record) (host : ℕ) (answers : List ℕ)
    → KeepsBatch st answers (observe_batch model names st records host answers)
unfolding observe_batch
batch-keeps model names st records host answers =
    batch-by (admitted model names st (length records) (length answers)) (observe_all model names st host records) st
    answers

abbrev KeepsStore : List ℕ → List ℕ → Kept → Type 0
KeepsStore st bs o = (r : Refusal) → o.answer ≡ Err r → (o.observations ≡ st) × (o.assets ≡ bs)

keep-by : (x : Verdict) (model st bs id content : List ℕ) (host : ℕ) → KeepsStore st bs (keep_by x model st bs id content host)
keep-by (Ok tt) model st bs id content host r q = (cc, cc)
keep-by (Err x) model st bs id content host r q = (refl, refl)

stored-keeps : (c : ℕ) (st bs bs' : List ℕ) → KeepsStore st bs (record { answer = Ok c; observations = st; assets = bs' })
stored-keeps c st bs bs' r q = (refl, cc)

pub store_keeps : (model names st bs id content : List ℕ) (host : ℕ) → KeepsStore st bs (store_asset model names st bs id content host)
unfolding store_asset keep_asset
store_keeps model names st bs id content host =
    by_cond (KeepsStore st bs) (model_ok model names) _ _
    (λ a. by_cond (KeepsStore st bs) (head_ok (items model) st && asset_head_ok bs) _ _
    (λ b. by_cond (KeepsStore st bs) (asset_ok id content) _ _
    (λ c.
    by_cond (KeepsStore st bs) (has_change model) _ _
    (λ d. keep-by (room_for (category model) (items model) st) model st bs id content host)
    (λ d. stored-keeps (cell_for id bs) st bs (store_cells id content bs)))
    (λ c r q. (refl, refl)))
    (λ b r q. (refl, refl)))
    (λ a r q. (refl, refl))

abbrev KeepsReply : List ℕ → Replied → Type 0
KeepsReply reply o = (r : Refusal) → o.answer ≡ Err r → o.reply ≡ reply

module _ (reply : List ℕ) where
  K : Replied → Type 0
  K = KeepsReply reply

  refuse-keeps : (r : Refusal) → K (refuse r reply)
  unfolding K
  refuse-keeps x r q = refl

  done-keeps : (k : ℕ) (words : List ℕ) → K (record { answer = Ok k; reply = over words reply })
  unfolding K
  done-keeps k words r q = cc

  written_keeps : (k : ℕ) (words : List ℕ) → K (written k words reply)
  unfolding written
  written_keeps k words = by_cond K (leb (length words) (length reply)) _ _ (λ h. done-keeps k words) (λ h. refuse-keeps Space)

  observation-keeps : (first last next : ℕ) (rows : List (List ℕ)) → K (observation_reply first last next rows reply)
  unfolding observation_reply
  observation-keeps first last next rows = written_keeps (length rows) (observation_words first last next rows)

  cells-keeps : (bs cells : List ℕ) → K (cells_reply bs cells reply)
  unfolding cells_reply asset_reply
  cells-keeps bs cells = by_cond K (all_cells (λ i. length_ok (length_at bs i)) cells) _ _ (λ h. written_keeps (length (cell_rows bs cells)) _) (λ h. refuse-keeps _)

  unless-keeps : (x : Verdict) (o : Replied) → K o → K (unless x reply o)
  unless-keeps (Ok tt) o h = h
  unless-keeps (Err r) o h = refuse-keeps r

  between-keeps : (m : ℕ) (st : List ℕ) (sel f e : ℕ) → K (sample_between m st sel f e reply)
  unfolding sample_between
  between-keeps m st sel f e = by_cond K (ring_ok (ring_size st) m (base st) st (e - f) f) _ _ (λ h. observation-keeps _ _ _ _) (λ h. refuse-keeps _)

  sample-keeps : (m : ℕ) (st : List ℕ) (from count : ℕ) (s : Option ℕ) → K (sample_reply m st from count reply s)
  unfolding sample_reply
  sample-keeps m st from count None = refuse-keeps _
  sample-keeps m st from count (Some sel) =
      let f : ℕ = start_of (first st) from in
      unless-keeps (in_range (first st) (suc (last st)) f) (sample_between m st sel f (end_of f count (last st)) reply) (between-keeps m st sel f (end_of f count (last st)))

  current-keeps : (cat : ℕ → ℕ) (m : ℕ) (st : List ℕ) (s : Option ℕ) → K (current_reply cat m st reply s)
  unfolding current_reply
  current-keeps cat m st None = refuse-keeps _
  current-keeps cat m st (Some sel) =
      by_cond K (current_ok cat (ring_size st) m st sel) _ _ (λ h. observation-keeps _ _ _ _) (λ h. refuse-keeps _)

  up_to-keeps : (cat : ℕ → ℕ) (m : ℕ) (st : List ℕ) (sel number : ℕ) → K (current_up_to cat m st sel number reply)
  unfolding current_up_to
  up_to-keeps cat m st sel number =
      by_cond K
      (ring_ok (ring_size st) m (base st) st (suc number - first st) (first st)
      && at_ok cat (ring_size st) m (base st) st sel (suc number - first st) (first st)) _ _
      (λ h. observation-keeps _ _ _ _) (λ h. refuse-keeps _)

  at-keeps : (cat : ℕ → ℕ) (m : ℕ) (st : List ℕ) (number : ℕ) (s : Option ℕ) → K (at_reply cat m st number reply s)
  unfolding at_reply
  at-keeps cat m st number None = refuse-keeps _
  at-keeps cat m st number (Some sel) =
      unless-keeps (in_range (first st) (last st) number) (current_up_to cat m st sel number reply)
      (up_to-keeps cat m st sel number)

  asked-keeps : (model names st bs : List ℕ) (q : Request) → K (answer_request model names st bs reply q)
  unfolding answer_request named_reply
  asked-keeps model names st bs (sample path from count) =
      by_cond K (ltb (ring_size st) count) _ _ (λ h. refuse-keeps _) (λ h. sample-keeps _ st from count (select model names path))
  asked-keeps model names st bs (current path) = current-keeps (category model) _ st (select model names path)
  asked-keeps model names st bs (current_at path number) =
      at-keeps (category model) _ st number (select model names path)
  asked-keeps model names st bs (assets ids) = by_cond K (all_cells (λ i. ltb i (used bs)) (find_all bs ids)) _ _ (λ h. cells-keeps bs (find_all bs ids)) (λ h. refuse-keeps _)
  asked-keeps model names st bs all_assets = cells-keeps bs _

  reading-keeps : (model names st bs : List ℕ) (q : Reading) → K (answer_reading model names st bs reply q)
  unfolding answer_reading
  reading-keeps model names st bs (unread r) = refuse-keeps r
  reading-keeps model names st bs (asked q) = asked-keeps model names st bs q

  pub write_keeps : (model names : List ℕ) (item time : ℕ) (v : Value)
      → KeepsReply reply (write_line model names item time v reply)
  unfolding write_line K
  write_keeps model names item time v =
      by_cond K (model_ok model names) _ _
      (λ a. by_cond K (ltb item (items model)) _ _
      (λ b. by_cond K (takes (category model item) v) _ _
      (λ c. by_cond K (leb time max_time) _ _ (λ d. written_keeps _ (line_of item time v)) (λ d. refuse-keeps _))
      (λ c. refuse-keeps _))
      (λ b. refuse-keeps _))
      (λ a. refuse-keeps _)

  pub request-keeps : (model names st bs text : List ℕ) → KeepsReply reply (request model names st bs text reply)
  unfolding request K
  request-keeps model names st bs text =
      by_cond K (model_ok model names) _ _
      (λ a. by_cond K (head_ok (items model) st && asset_head_ok bs) _ _ (λ b. reading-keeps model names st bs (read_text text)) (λ b. refuse-keeps _))
      (λ a. refuse-keeps _)
