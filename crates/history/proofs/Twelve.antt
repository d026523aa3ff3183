-- No call answers 12, document 02, Req 04: neither as a number nor as a word, whatever its model, names, stores and
-- arguments.
use mathlib.Core.Path.{◌≡◌, refl, ap}
use mathlib.Core.Bool.{true, ◌&&◌}
use Prim.Native.Nat.{ℕ, suc, ◌-◌, ◌≤◌}
use native.Mathlib.Omega.{arith}
use mathlib.Core.List.{List, [], ◌∷◌}
use lib.Dec.{leb, eqb}
use lib.ListN.{length}
use Rattle.std.specs.Prelude.{Result, Ok, Err}
use Rattle.spec.specs.Bytes.{all}
use Rattle.spec.specs.Value.{decode}
use Rattle.spec.specs.Model.{items, category, has_change, model_ok}
use Rattle.history.specs.Observations.{max_number, head_ok}
use Rattle.spec.specs.Assets.{used, asset_head_ok, asset_ok, out_for, cell_for}
use Rattle.spec.specs.Answers.{Answer, Verdict, refusal_number, answer_number, observe_word, store_word}
use Rattle.history.specs.Calls.{Observed, Kept, time_or, room_for, observe_by, observe, observe_all, admitted}
use Rattle.history.specs.Calls.{batch_by, observe_batch, observe_item, observe_reading, observe_line, keep_by, keep_asset, store_asset, request}
use Rattle.history.specs.History.{Call, Stores, Start, stores_start, stores_output}
use Rattle.history.specs.History.Output.{started, batched}
use Rattle.lines.specs.Lines.{read_line, value_for}
use Rattle.lines.specs.declared.Line.{Line}
use Rattle.lines.specs.declared.LineError.{LineError}
use Rattle.lines.specs.declared.LineError.TheVariants.{Malformed, BadStamp}
use Rattle.spec.specs.declared.Record.{Record}
use Rattle.spec.specs.declared.Value.{Value}
use Rattle.spec.specs.declared.Refusal.{Refusal}
use Rattle.spec.specs.declared.Refusal.TheVariants.{Model, Store, Size, Item, Kind, Spent, InvalidUri}
use Rattle.spec.specs.declared.Refusal.TheVariants.{InvalidRequest, Unsupported, TooMany, InvalidXpath}
use Rattle.spec.specs.declared.Refusal.TheVariants.{AssetNotFound, Asset, Space, Batch, Late, Early, Crowded}
use Rattle.spec.specs.declared.Refusal.TheVariants.{Line as NoLine, Stamp as NoStamp}
use Rattle.std.specs.Prelude.{Ok, Err}
use Rattle.spec.proofs.Words.{by_cond, and_right}
use Rattle.std.proofs.lemmas.Bool.{and_from}
use Rattle.history.proofs.Free.{number_free, word_free, output_free, Free, Sound, sound-word, SoundCell, sound-cell}
use Rattle.history.proofs.Free.{batched-free}
use Rattle.history.proofs.Heads.{room-for, item-cases}
use Rattle.spec.proofs.Assets.{asset-head}

-- ---- refusals and answers

pub unused : (r : Refusal) → number_free 12 (refusal_number r) ≡ true
unused Model = refl
unused Store = refl
unused Size = refl
unused Item = refl
unused Kind = refl
unused Spent = refl
unused InvalidUri = refl
unused InvalidRequest = refl
unused Unsupported = refl
unused TooMany = refl
unused InvalidXpath = refl
unused AssetNotFound = refl
unused Asset = refl
unused Space = refl
unused Batch = refl
unused Late = refl
unused Early = refl
unused Crowded = refl
unused NoLine = refl
unused NoStamp = refl

answer-free : (x : Answer) → number_free 12 (answer_number x) ≡ true
answer-free (Ok k) = refl
answer-free (Err r) = unused r

-- ---- each call

by-sound : (cat : ℕ → ℕ) (m : ℕ) (st : List ℕ) (item time word : ℕ) (v : Verdict) → room_for cat m st ≡ v
    → Sound 12 (observe_by v cat m st item time word).answer
by-sound cat m st item time word (Ok tt) e = (room-for cat m st e).0
by-sound cat m st item time word (Err r) e = unused r

item-free : (model st : List ℕ) (item time : ℕ) (v : Value) → Sound 12 (observe_item model st item time v).answer
item-free model st item time v =
    item-cases (λ (o : Observed). Sound 12 o.answer) model st item time v unused tt
    (λ h.
    by-sound (category model) (items model) st item time _ (room_for (category model) (items model) st) refl)

observe-free : (model names st : List ℕ) (item time host : ℕ) (v : Value)
    → word_free 12 (observe_word (observe model names st item time host v).answer) ≡ true
unfolding observe
observe-free model names st item time host v =
    let P : Observed → Type 0 = λ o. Sound 12 o.answer in
    sound-word 12 (observe model names st item time host v).answer
    (by_cond P (model_ok model names) _ _
    (λ a. by_cond P (head_ok (items model) st) _ _ (λ b. item-free model st item (time_or time host) v) (λ b. refl))
    (λ a. refl))

line-free : (model names st text : List ℕ) (host : ℕ)
    → word_free 12 (observe_word (observe_line model names st text host).answer) ≡ true
unfolding observe_line
line-free model names st text host =
    let P : Observed → Type 0 = λ o. Sound 12 o.answer in
    sound-word 12 (observe_line model names st text host).answer
    (by_cond P (model_ok model names) _ _
    (λ a. by_cond P (head_ok (items model) st) _ _ (λ b. go (read_line text)) (λ b. refl))
    (λ a. refl))
  where
    go : (r : Result Line LineError) → Sound 12 (observe_reading r model st host).answer
    go (Err Malformed) = refl
    go (Err BadStamp) = refl
    go (Ok l) =
        item-free model st l.item (time_or l.time host) (value_for (category model l.item) l.form)

module _ (model names : List ℕ) (host : ℕ) where
  words-free : (rs : List Record) (st : List ℕ) → all (word_free 12) (observe_all model names st host rs).words ≡ true
  unfolding all observe_all
  words-free [] st = refl
  words-free (r ∷ rs) st =
      let v = decode r.value in
      and_from _ _ (observe-free model names st r.item r.time host v)
      (words-free rs (observe model names st r.item r.time host v).observations)

  one_each : (rs : List Record) (st : List ℕ) → length (observe_all model names st host rs).words ≡ length rs
  unfolding observe_all
  one_each [] st = refl
  one_each (r ∷ rs) st =
      ap suc (one_each rs (observe model names st r.item r.time host (decode r.value)).observations)

  batch-free : (st : List ℕ) (rs : List Record) (answers : List ℕ)
      → let o = observe_batch model names st rs host answers in output_free 12 (batched o.answer o.answers) ≡ true
  unfolding observe_batch admitted all
  batch-free st rs answers =
      let q = observe_all model names st host rs in
      let P : Answer → Type 0 = λ x.
      let o = batch_by x q st answers in
      output_free 12 (batched o.answer o.answers) ≡ true in
      by_cond P (model_ok model names) _ _
      (λ a. by_cond P (head_ok (items model) st) _ _
      (λ b. by_cond P (leb (length rs) 256) _ _
      (λ c. by_cond P (leb (length rs) (length answers)) _ _
      (λ d. batched-free 12 (length rs) q.words answers (omega arith) (one_each rs st) (words-free rs st))
      (λ d. refl))
      (λ c. refl))
      (λ b. refl))
      (λ a. refl)

cell-low : (id bs : List ℕ) → asset_head_ok bs ≡ true → cell_for id bs ≤ 128
unfolding cell_for
cell-low id bs h =
    let g = asset-head bs h in
    by_cond (λ (n : ℕ). n - 1 ≤ 128) (eqb (out_for id bs) (used bs)) _ _
    (λ e. omega (arith, g.u_max, g.a_max)) (λ e. omega (arith, g.u_max, g.a_max))

store-free : (model names st bs id content : List ℕ) (host : ℕ)
    → word_free 12 (store_word (store_asset model names st bs id content host).answer) ≡ true
unfolding store_asset keep_asset
store-free model names st bs id content host =
    let P : Kept → Type 0 = λ o. SoundCell 12 o.answer in
    sound-cell 12 (store_asset model names st bs id content host).answer
    (by_cond P (model_ok model names) _ _
    (λ a. by_cond P (head_ok (items model) st && asset_head_ok bs) _ _
    (λ b.
    let l : cell_for id bs ≤ max_number = omega (arith, cell-low id bs (and_right (head_ok (items model) st) _ b)) in
    by_cond P (asset_ok id content) _ _
    (λ c. by_cond P (has_change model) _ _ (λ d. keep-sound l (room_for (category model) (items model) st)) (λ d. l))
    (λ c. refl))
    (λ b. refl))
    (λ a. refl))
  where
    keep-sound : cell_for id bs ≤ max_number → (v : Verdict) → SoundCell 12 (keep_by v model st bs id content host).answer
    keep-sound l (Ok tt) = l
    keep-sound l (Err r) = unused r

-- ---- the theorem: start's answer, and the output of every other call

pub start-no-twelve : (a : Start) → output_free 12 (started (stores_start a).answer) ≡ true
start-no-twelve a = answer-free (stores_start a).answer

pub no-twelve : (model names : List ℕ) (s : Stores) (c : Call) → Free 12 (stores_output model names s c)
no-twelve model names s (Call.observe item time host v) =
    (observe-free model names s.observations item time host v, tt)
no-twelve model names s (Call.batch records host answers) =
    (batch-free model names host s.observations records answers, tt)
no-twelve model names s (Call.line text host) = (line-free model names s.observations text host, tt)
no-twelve model names s (Call.store_asset id content host) =
    (store-free model names s.observations s.assets id content host, tt)
no-twelve model names s (Call.request text reply) =
    (answer-free (request model names s.observations s.assets text reply).answer, tt)
no-twelve model names s (Call.body id) = (refl, tt)
