-- The observations that a call offers, one after another: base and assets stay, and where the stores stand for the
-- reference model's state, a batch answers as the reference model does and leaves a store that stands for the state
-- behind its offers.
use mathlib.Core.Path.{◌≡◌, refl, ◌∙◌}
use Prim.Native.Nat.{ℕ}
use mathlib.Core.List.{List, [], ◌∷◌, map}
use lib.Dec.{leb, ltb}
use lib.ListN.{length}
use Rattle.spec.specs.Value.{decode}
use Rattle.spec.specs.Reply.{over}
use Rattle.spec.specs.Answers.{Answer, ObserveAnswer, observe_word}
use Rattle.history.specs.Calls.{Answered, Batched, observe_all, max_batch, admitted, batch_by, observe_batch}
use Rattle.history.specs.Reference.{State, Offer, observe_answer, observe_next, offer_next, offers_answers, offers_next}
use Rattle.history.specs.Reference.{batch_answer, offer_of, batch_offers}
use Rattle.spec.specs.declared.Record.{Record}
use Rattle.spec.specs.declared.Value.{Value}
use Rattle.std.specs.Prelude.{Ok, Err}
use Rattle.spec.specs.declared.Noted.TheVariants.{Recorded, Same}
use Rattle.spec.proofs.Words.{ltb-not}
use Rattle.spec.proofs.Packing.{decode-fits}
use Rattle.history.proofs.Agree.{Good, bytes, observe-agree, right-head, other_test}

-- ---- what an observe leaves as it is

observe-base : (x : ObserveAnswer) (p : State) (item time host : ℕ) (v : Value)
    → (observe_next x p item time host v).B ≡ p.B
observe-base (Ok (Recorded n)) p item time host v = refl
observe-base (Ok Same) p item time host v = refl
observe-base (Err r) p item time host v = refl

observe-assets : (x : ObserveAnswer) (p : State) (item time host : ℕ) (v : Value)
    → bytes p ≡ bytes (observe_next x p item time host v)
observe-assets (Ok (Recorded n)) p item time host v = refl
observe-assets (Ok Same) p item time host v = refl
observe-assets (Err r) p item time host v = refl

module _ (model names : List ℕ) where
  pub offers-base : (os : List Offer) (p : State) → (offers_next model names p os).B ≡ p.B
  unfolding offers_next
  offers-base [] p = refl
  offers-base (o ∷ os) p =
      offers-base os (offer_next model names p o)
      ∙ observe-base (observe_answer model names p o.item o.value) p o.item o.time o.host o.value

  pub offers-assets : (os : List Offer) (p : State) → bytes p ≡ bytes (offers_next model names p os)
  unfolding offers_next
  offers-assets [] p = refl
  offers-assets (o ∷ os) p =
      observe-assets (observe_answer model names p o.item o.value) p o.item o.time o.host o.value
      ∙ offers-assets os (offer_next model names p o)

  -- ---- records observed one after another

  abbrev AllAgree : State → List Offer → Answered → Type 0
  AllAgree p os q =
      (q.words ≡ map observe_word (offers_answers model names p os))
      × Good model names (offers_next model names p os) q.observations

  all-agree : (host : ℕ) (rs : List Record) (p : State) (st : List ℕ) → Good model names p st
      → AllAgree p (map (offer_of host) rs) (observe_all model names st host rs)
  unfolding observe_all offers_answers offers_next
  all-agree host [] p st G = (refl, G)
  all-agree host (r ∷ rs) p st G =
      let o = observe-agree model names p st G r.item r.time host (decode r.value) (decode-fits r.value) in
      let q = all-agree host rs (offer_next model names p (offer_of host r)) _ o.1 in
      (rw (o.0, q.0), q.1)

  -- ---- a batch

  module _ (p : State) (st : List ℕ) (G : Good model names p st) where
    admitted-is : (n k : ℕ) → admitted model names st n k ≡ batch_answer model names n k
    unfolding admitted batch_answer
    admitted-is n k =
        rw (G.right, right-head model names p st G)
        (other_test (λ (x y : Answer). x ≡ y) (leb n max_batch) (ltb 256 n) (ltb-not 256 n)
        (λ h. other_test (λ (x y : Answer). x ≡ y) (leb n k) (ltb k n) (ltb-not k n) (λ g. refl) (λ g. refl))
        (λ h. refl))

    abbrev BatchAgree : List Record → ℕ → List ℕ → Answer → Batched → Type 0
    BatchAgree rs host answers x o =
        let os = batch_offers x host rs in
        (o.answer ≡ x)
        × (o.answers ≡ over (map observe_word (offers_answers model names p os)) answers)
        × Good model names (offers_next model names p os) o.observations

    by_answer : (rs : List Record) (host : ℕ) (answers : List ℕ) (x : Answer)
        → BatchAgree rs host answers x (batch_by x (observe_all model names st host rs) st answers)
    unfolding offers_answers offers_next
    by_answer rs host answers (Ok n) =
        let q = all-agree host rs p st G in
        (refl, rw q.0, q.1)
    by_answer rs host answers (Err r) = (refl, refl, G)

    pub batch-agree : (rs : List Record) (host : ℕ) (answers : List ℕ)
        → BatchAgree rs host answers (batch_answer model names (length rs) (length answers))
        (observe_batch model names st rs host answers)
    unfolding observe_batch
    batch-agree rs host answers =
        rw (admitted-is (length rs) (length answers))
        (by_answer rs host answers (batch_answer model names (length rs) (length answers)))
