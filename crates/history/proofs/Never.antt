-- Refusal 2 never occurs behind an accepted start: the reference model doesn't give it, and the stores' calls answer as it does.
use mathlib.Core.Path.{◌≡◌, refl, ap, ◌∙◌}
use mathlib.Core.Logic.{◌≢◌}
use mathlib.Core.Bool.{Bool, true, ◌&&◌, not}
use Prim.Native.Nat.{ℕ, suc, ◌-◌, ◌≤◌}
use native.Mathlib.Omega.{arith}
use mathlib.Core.List.{List, [], ◌∷◌, map}
use lib.Dec.{leb, ltb, eqb}
use lib.ListN.{length, take, drop, length-append, length-take, length-drop, length-map}
use borrow.Author.Tests.{eqb-false}
use Rattle.std.specs.Prelude.{Result, Ok, Err}
use Rattle.spec.specs.Bytes.{all, split}
use Rattle.spec.specs.Value.{takes}
use Rattle.spec.specs.Model.{items, category, has_change, model_ok}
use Rattle.spec.specs.Assets.{asset_ok}
use Rattle.spec.specs.Text.{slot, is_given, number_ok, count_ok, id_texts, Word, Request, Reading, uri_ok, word_of}
use Rattle.spec.specs.Text.{word_length, parameters, by_parameters, sample_request, current_request, asset_request}
use Rattle.spec.specs.Text.{read_word, read_text}
use Rattle.spec.specs.Text.Word.{sample_word, current_word, asset_word, assets_word, probe_word, other_word}
use Rattle.spec.specs.Text.Request.{sample, current, current_at, assets, all_assets}
use Rattle.spec.specs.Text.Reading.{unread, asked}
use Rattle.spec.specs.Path.{select}
use Rattle.spec.specs.Answers.{Answer, ObserveAnswer, refusal_number, answer_number, observe_word, store_word}
use Rattle.history.specs.Observations.{max_number}
use Rattle.spec.specs.Reply.{Replied, over, observation_words, asset_words, written, observation_reply, asset_reply}
use Rattle.history.specs.Reference.{State, Offer, Held, same_value, crowded_value, spent, last_of, place, holds}
use Rattle.history.specs.Reference.{make_room, all_held, observe_answer, observe_next, offer_next, offers_answers}
use Rattle.history.specs.Reference.{batch_answer, offer_of, batch_offers, assets_after, store_answer, current_for}
use Rattle.history.specs.Reference.{reading_answer, line_answer, reply_to, reply_reading, begin_answer}
use Rattle.history.specs.Reference
use Rattle.history.specs.Reference.{Begun}
use Rattle.history.specs.Reference.Begun.{begun}
use Rattle.history.specs.History.{Call, AllTyped, Start, begins, stores_start, stores_next, stores_outputs}
use Rattle.history.specs.History.{reference_output, reference_next, reference_run, reference_outputs}
use Rattle.history.specs.History.Call.{observe, batch, line, store_asset, request, body}
use Rattle.history.specs.History.Output.{batched}
use Rattle.lines.specs.Lines.{read_line, value_for}
use Rattle.lines.specs.declared.Line.{Line}
use Rattle.lines.specs.declared.LineError.{LineError}
use Rattle.lines.specs.declared.LineError.TheVariants.{Malformed, BadStamp}
use Rattle.spec.specs.declared.Record.{Record}
use Rattle.spec.specs.declared.Value.{Value}
use Rattle.std.specs.Prelude.{Ok, Err, Option, Some, None}
use Rattle.spec.specs.declared.Noted.TheVariants.{Recorded, Same}
use Rattle.spec.proofs.Words.{by_cond}
use Rattle.std.proofs.lemmas.Bool.{and_from}
use Rattle.history.proofs.Free.{number_free, word_free, output_free, Free, AllFree, Sound, sound-word, SoundCell}
use Rattle.history.proofs.Free.{sound-cell, batched-free}
use Rattle.history.proofs.Requests.{selected-cases, sample-cases, at-cases}
use Rattle.history.proofs.Recorded.{last_or-append}
use Rattle.history.proofs.Agree.{Good, last-is}
use Rattle.history.proofs.Begin.{start-good}
use Rattle.history.proofs.History.{stores, next-good, answers}

-- ---- the text's refusals

abbrev reading_free : Reading → Bool
reading_free (unread r) = number_free 2 (refusal_number r)
reading_free (asked q) = true

abbrev F : Reading → Type 0
F q = reading_free q ≡ true

sample-free : (given : List (Option (List ℕ))) → F (sample_request given)
unfolding sample_request
sample-free given =
    by_cond F (number_ok (slot given 1) && (count_ok (slot given 2) && number_ok (slot given 3))) _ _
    (λ h. by_cond F (is_given (slot given 3)) _ _ (λ g. refl) (λ g. refl))
    (λ h. refl)

current-free : (given : List (Option (List ℕ))) → F (current_request given)
unfolding current_request
current-free given =
    by_cond F (number_ok (slot given 3) && number_ok (slot given 4)) _ _
    (λ h. by_cond F (is_given (slot given 3)) _ _ (λ g. by_cond F (is_given (slot given 4)) _ _ (λ k. refl) (λ k. refl)) (λ g. refl))
    (λ h. refl)

parameters-free : (f : List (Option (List ℕ)) → Reading) → ((g : List (Option (List ℕ))) → F (f g)) → (o : Option (List (Option (List ℕ)))) → F (by_parameters f o)
parameters-free f h None = refl
parameters-free f h (Some g) = h g

word-free : (w : Word) (s : List ℕ) → F (read_word w s)
unfolding read_word asset_request
word-free sample_word s = parameters-free sample_request sample-free (parameters sample_word s)
word-free current_word s = parameters-free current_request current-free (parameters current_word s)
word-free asset_word [] = refl
word-free asset_word (x ∷ s) = by_cond F (eqb x 47 && id_texts (split 59 s)) _ _ (λ h. refl) (λ h. refl)
word-free assets_word [] = refl
word-free assets_word (x ∷ s) = refl
word-free probe_word s = refl
word-free other_word s = refl

text-free : (text : List ℕ) → F (read_text text)
unfolding read_text
text-free text = by_cond F (uri_ok text) _ _ (λ h. word-free (word_of (take (word_length text) (drop 1 text))) (drop (word_length text) (drop 1 text))) (λ h. refl)

-- ---- the reference model's answers

abbrev R : Replied → Type 0
R o = number_free 2 (answer_number o.answer) ≡ true

written-free : (k : ℕ) (words reply : List ℕ) → R (written k words reply)
unfolding written
written-free k words reply = by_cond R (leb (length words) (length reply)) _ _ (λ h. refl) (λ h. refl)

rows-free : (first last next : ℕ) (rows : List (List ℕ)) (reply : List ℕ) → R (observation_reply first last next rows reply)
unfolding observation_reply
rows-free first last next rows reply = written-free (length rows) (observation_words first last next rows) reply

cells_free : (u A : ℕ) (rows : List (List ℕ)) (reply : List ℕ) → R (asset_reply u A rows reply)
unfolding asset_reply
cells_free u A rows reply = written-free (length rows) (asset_words u A rows) reply

request-free : (model names : List ℕ) (p : State) (reply : List ℕ) (q : Request) → R (reply_to model names p reply q)
unfolding reply_to current_for
request-free model names p reply (sample path from count) =
    sample-cases R reply model names p path from count
    (λ c. refl) (λ c s. refl) (λ sel c s h. refl) (λ sel c s h. refl) (λ sel c s lo hi. rows-free _ _ _ _ reply)
request-free model names p reply (current path) =
    selected-cases R reply (select model names path) _ (λ s. refl) (λ sel s. rows-free _ _ _ _ reply)
request-free model names p reply (current_at path number) =
    at-cases R reply model names p path number refl refl refl (λ sel. rows-free _ _ _ _ reply)
request-free model names p reply (assets ids) = by_cond R (not (all_held p.T ids)) _ _ (λ h. refl) (λ h. cells_free _ _ _ reply)
request-free model names p reply all_assets = cells_free _ _ _ reply

reading-free : (model names : List ℕ) (p : State) (reply : List ℕ) (q : Reading) → F q → R (reply_reading model names p reply q)
unfolding reply_reading
reading-free model names p reply (unread r) h = h
reading-free model names p reply (asked q) h = request-free model names p reply q

-- the last number is one, and there are no more assets than a store has room for
abbrev Low : State → Type 0
Low p = (last_of p ≤ max_number) × (length p.T ≤ 128)

module _ (model names : List ℕ) where
  observe-sound : (p : State) → Low p → (item : ℕ) (v : Value) → Sound 2 (observe_answer model names p item v)
  unfolding observe_answer
  observe-sound p l item v =
      by_cond (Sound 2) (not (model_ok model names)) _ _ (λ h. refl)
      (λ h. by_cond (Sound 2) (leb (items model) item) _ _ (λ h. refl)
      (λ h. by_cond (Sound 2) (not (takes (category model item) v)) _ _ (λ h. refl)
      (λ h. by_cond (Sound 2) (same_value (category model item) item p.H v) _ _ (λ h. tt)
      (λ h. by_cond (Sound 2) (crowded_value (category model item) item p.H v) _ _ (λ h. refl)
      (λ h. by_cond (Sound 2) (spent p) _ _ (λ h. refl)
      (λ h.
      let n : last_of p ≢ max_number = eqb-false (last_of p) max_number h in
      omega arith))))))

  low-offer : (p : State) → Low p → (o : Offer) → Low (offer_next model names p o)
  low-offer p l o = go (observe_answer model names p o.item o.value) (observe-sound p l o.item o.value)
    where
      go : (x : ObserveAnswer) → Sound 2 x → Low (observe_next x p o.item o.time o.host o.value)
      go (Ok (Recorded n)) h = rw (last_or-append p.H 0 _) (h, l.1)
      go (Ok Same) h = l
      go (Err r) h = l

  words-free : (os : List Offer) (p : State) → Low p
      → all (word_free 2) (map observe_word (offers_answers model names p os)) ≡ true
  unfolding all offers_answers
  words-free [] p l = refl
  words-free (o ∷ os) p l =
      and_from _ _
      (sound-word 2 (observe_answer model names p o.item o.value) (observe-sound p l o.item o.value))
      (words-free os (offer_next model names p o) (low-offer p l o))

  one_each : (os : List Offer) (p : State) → length (map observe_word (offers_answers model names p os)) ≡ length os
  unfolding offers_answers
  one_each [] p = refl
  one_each (o ∷ os) p = ap suc (one_each os (offer_next model names p o))

  B : List Record → ℕ → List ℕ → State → Answer → Type 0
  B rs host answers p x =
      let ws = map observe_word (offers_answers model names p (batch_offers x host rs)) in
      output_free 2 (batched x (over ws answers)) ≡ true

  batch-free : (p : State) → Low p → (rs : List Record) (host : ℕ) (answers : List ℕ)
      → B rs host answers p (batch_answer model names (length rs) (length answers))
  unfolding batch_answer B all
  batch-free p l rs host answers =
      by_cond (B rs host answers p) (not (model_ok model names)) _ _ (λ h. refl)
      (λ h. by_cond (B rs host answers p) (ltb 256 (length rs)) _ _ (λ h. refl)
      (λ h. by_cond (B rs host answers p) (ltb (length answers) (length rs)) _ _ (λ h. refl)
      (λ h.
      let os : List Offer = map (offer_of host) rs in
      batched-free 2 (length rs) (map observe_word (offers_answers model names p os)) answers (omega arith)
      (one_each os p ∙ length-map rs (offer_of host)) (words-free os p l))))

  line-free : (p : State) → Low p → (text : List ℕ) → word_free 2 (observe_word (line_answer model names p text)) ≡ true
  unfolding line_answer
  line-free p l text =
      sound-word 2 (line_answer model names p text)
      (by_cond (Sound 2) (not (model_ok model names)) _ _ (λ h. refl) (λ h. go (read_line text)))
    where
      go : (r : Result Line LineError) → Sound 2 (reading_answer r model names p)
      go (Err Malformed) = refl
      go (Err BadStamp) = refl
      go (Ok r) = observe-sound p l r.item (value_for (category model r.item) r.form)

  -- the cell of a new asset is at most how many there were
  cell-low : (p : State) (id content : List ℕ) → length (assets_after p id content) - 1 ≤ length p.T
  cell-low p id content =
      let T = p.T in
      let i = place id T in
      let P : List Held → Type 0 = λ T'. length T' ≤ length T in
      let h : length (make_room p.A id T) ≤ length T =
      by_cond P (holds id T) _ _
      (λ g. omega (arith, length-append (take i T) (drop (suc i) T), length-take i T, length-drop (suc i) T))
      (λ g. by_cond P (leb p.A (length T)) _ _ (λ k. omega (arith, length-drop 1 T)) (λ k. omega arith)) in
      omega (arith, length-append (make_room p.A id T) (record { id = id; content = content } ∷ []))

  store-free : (p : State) → Low p → (id content : List ℕ)
      → word_free 2 (store_word (store_answer model names p id content)) ≡ true
  unfolding store_answer
  store-free p l id content =
      sound-cell 2 (store_answer model names p id content)
      (by_cond (SoundCell 2) (not (model_ok model names)) _ _ (λ h. refl)
      (λ h. by_cond (SoundCell 2) (not (asset_ok id content)) _ _ (λ h. refl)
      (λ h. by_cond (SoundCell 2) (has_change model && spent p) _ _ (λ h. refl)
      (λ h. omega (arith, cell-low p id content, l.1)))))

output-free : (model names : List ℕ) (p : State) → Low p → (c : Call) → Free 2 (reference_output model names p c)
unfolding Reference.reply B
output-free model names p l (observe item time host v) =
    (sound-word 2 (observe_answer model names p item v) (observe-sound model names p l item v), tt)
output-free model names p l (batch records host answers) = (batch-free model names p l records host answers, tt)
output-free model names p l (line text host) = (line-free model names p l text, tt)
output-free model names p l (store_asset id content host) = (store-free model names p l id content, tt)
output-free model names p l (request text reply) =
    (by_cond R (not (model_ok model names)) _ _ (λ h. refl) (λ h. reading-free model names p reply (read_text text) (text-free text)), tt)
output-free model names p l (body id) = (refl, tt)

run-free : (model names : List ℕ) (cs : List Call) (p : State) (st : List ℕ) → Good model names p st → AllTyped cs
    → AllFree 2 (reference_run model names p cs)
unfolding reference_run
run-free model names [] p st G t = tt
run-free model names (c ∷ cs) p st G t = (
  output-free model names p (omega (arith, last-is model names p st G, G.top), omega (arith, G.room, G.A-high)) c,
  run-free model names cs (reference_next model names p c) (stores_next model names (stores p st) c).observations
      (next-good model names p st G c t.0) t.1,
)

-- no output of the stores is refusal 2, as number or as word
pub never-store : (a : Start) (p : State) → begins a ≡ begun p → (cs : List Call) → AllTyped cs → AllFree 2 (stores_outputs a cs)
unfolding reference_outputs
never-store a p e cs t =
    rw (answers a p e cs t) (
      (ap (λ (x : Begun). number_free 2 (answer_number (begin_answer x))) e, tt),
      run-free a.model a.names cs p (stores_start a).observations (start-good a p e).good t,
    )
