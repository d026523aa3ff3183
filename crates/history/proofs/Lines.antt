-- An adapter line over any stores and in the reference model: one that reads is the observe of its reading, any other
-- is refused and adds nothing; where the stores stand for the reference model's state, both agree on it; and a line
-- that was written reads back to what it was written of.
use mathlib.Core.Path.{◌≡◌, refl}
use mathlib.Core.Bool.{true, not}
use Prim.Native.Nat.{ℕ, ◌^◌, ◌<◌, ◌≤◌}
use mathlib.Core.List.{List}
use lib.Dec.{leb, ltb}
use lib.ListN.{length, take, drop}
use lib.Seq.{take-append_seam}
use native.Mathlib.Omega.{arith}
use borrow.Author.Tests.{ltb-true, leb-true}
use Rattle.std.specs.Prelude.{Result, Ok, Err}
use Rattle.spec.specs.Value.{takes, Fits}
use Rattle.spec.specs.Reply.{Replied, refuse, over, written}
use Rattle.spec.specs.Model.{items, category, model_ok}
use Rattle.lines.specs.Stamps.{max_time}
use Rattle.lines.specs.Lines.{read_line, reads, value_for, line_of}
use Rattle.lines.specs.declared.Form.{Form}
use Rattle.lines.specs.declared.Line.{Line}
use Rattle.lines.specs.declared.LineError.{LineError}
use Rattle.lines.specs.declared.LineError.TheVariants.{Malformed, BadStamp}
use Rattle.history.specs.Calls.{Observed, observe, observe_reading, observe_line, write_line}
use Rattle.history.specs.Reference.{State, observe_answer, offers_next, reading_answer, line_answer, reading_offers}
use Rattle.spec.specs.declared.Value.{Value}
use Rattle.std.specs.Prelude.{Ok}
use Rattle.spec.specs.Answers.{Answer, ObserveAnswer}
use Rattle.spec.specs.declared.Refusal.{Refusal}
use Rattle.spec.specs.declared.Refusal.TheVariants.{Model, Item, Kind, Space, Stamp}
use Rattle.spec.proofs.Words.{by_cond}
use Rattle.spec.proofs.Model.{checked}
use Rattle.lines.proofs.Lines.{value-fits, form_for, line-back}
use Rattle.history.proofs.Agree.{Good, observe-agree, right-head}

-- ---- over any stores, and in the reference model

module _ (model names text : List ℕ) (time item : ℕ) (form : Form) (reads-to : read_line text ≡ reads time item form) where
  pub line-observes : (st : List ℕ) (host : ℕ)
      → observe_line model names st text host
      ≡ observe model names st item time host (value_for (category model item) form)
  unfolding observe_line observe
  line-observes st host = rw reads-to refl

  pub line-answers : (p : State)
      → line_answer model names p text ≡ observe_answer model names p item (value_for (category model item) form)
  unfolding line_answer observe_answer
  line-answers p =
      rw reads-to
      (by_cond (λ (x : ObserveAnswer). x ≡ observe_answer model names p item (value_for (category model item) form))
      (not (model_ok model names)) _ _ (λ h. rw h refl) (λ h. refl))

-- ---- where the stores stand for the reference model's state

module _ (model names : List ℕ) (p : State) (st : List ℕ) (G : Good model names p st) (host : ℕ) where
  abbrev ReadingAgree : Result Line LineError → Observed → Type 0
  ReadingAgree l o =
      (o.answer ≡ reading_answer l model names p)
      × Good model names (offers_next model names p (reading_offers l model host)) o.observations

  reading-agree : (l : Result Line LineError) → ReadingAgree l (observe_reading l model st host)
  unfolding offers_next observe
  reading-agree (Err Malformed) = (refl, G)
  reading-agree (Err BadStamp) = (refl, G)
  reading-agree (Ok l) =
      let v = value_for (category model l.item) l.form in
      rw (G.right, right-head model names p st G)
      at (observe-agree model names p st G l.item l.time host v (value-fits (category model l.item) l.form))

  pub line-agree : (text : List ℕ)
      → ((observe_line model names st text host).answer ≡ line_answer model names p text)
      × Good model names (offers_next model names p (reading_offers (read_line text) model host))
      (observe_line model names st text host).observations
  unfolding observe_line line_answer
  line-agree text = rw (G.right, right-head model names p st G) (reading-agree (read_line text))

-- ---- a line that was written

-- reading it is the observe of what was written: the same answer and the same store, over any stores and by any host
-- time
module _ (model names : List ℕ) (item time : ℕ) (v : Value) (fits : Fits v) (text st : List ℕ) (host : ℕ) where
  abbrev ReadsBack : Replied → Type 0
  ReadsBack x = (n : ℕ) → x.answer ≡ Ok n
      → observe_line model names st (take n x.reply) host ≡ observe model names st item time host v

  refused-back : (r : Refusal) → ReadsBack (refuse r text)
  refused-back r n e = cc

  line-read-back : item < 10 ^ 10 → time ≤ max_time → takes (category model item) v ≡ true
      → observe_line model names st (line_of item time v) host ≡ observe model names st item time host v
  line-read-back hi ht h =
      let b = line-back (category model item) item time v hi ht h fits in
      rw (line-observes model names (line_of item time v) time item (form_for v) b.line st host, b.value) refl

  pub written-reads : ReadsBack (write_line model names item time v text)
  unfolding write_line written
  written-reads =
      by_cond ReadsBack (model_ok model names) _ _
      (λ a. by_cond ReadsBack (ltb item (items model)) _ _
      (λ b. by_cond ReadsBack (takes (category model item) v) _ _
      (λ c. by_cond ReadsBack (leb time max_time) _ _
      (λ d. by_cond ReadsBack (leb (length line) (length text)) _ _
      (λ e n f. at_front n f (line-read-back (small a b) (leb-true time max_time d) c))
      (λ e. refused-back Space))
      (λ d. refused-back Stamp))
      (λ c. refused-back Kind))
      (λ b. refused-back Item))
      (λ a. refused-back Model)
    where
      line : List ℕ
      line = line_of item time v

      small : model_ok model names ≡ true → ltb item (items model) ≡ true → item < 10 ^ 10
      small a b = omega (arith, (checked model names a).sizes.m_max, ltb-true item (items model) b)

      at_front : (n : ℕ) → ◌≡◌ {A = Answer} (Ok (length line)) (Ok n)
          → observe_line model names st line host ≡ observe model names st item time host v
          → observe_line model names st (take n (over line text)) host ≡ observe model names st item time host v
      at_front n f g =
          let m : n ≡ length line = cc in
          rw (m, take-append_seam line (drop (length line) text)) g
