-- Demand 3: the history theorem, whole. For every accepted start and every list of calls the stores' outputs are the reference
-- model's, and one client's windows that meet are the reference model's matching observations.
use mathlib.Core.Path.{◌≡◌, refl, sym, ap, ◌∙◌, subst}
use mathlib.Core.Bool.{Bool, true, false, cond}
use Prim.Native.Nat.{ℕ, suc, ◌+◌}
use mathlib.Core.List.{List, [], ◌∷◌, ◌++◌}
use lib.ListN.{length}
use Rattle.spec.specs.Model.{items}
use Rattle.history.specs.Observations.{head_ok}
use Rattle.spec.specs.Assets.{asset_head_ok}
use Rattle.history.specs.Reference.{State, Observation, offers_next, store_answer, store_next, last_or}
use Rattle.history.specs.Reference.Begun.{begun}
use Rattle.history.specs.History.{Call, Typed, AllTyped, Stores, Start, Window, History, begins, stores_start}
use Rattle.history.specs.History.{stores_output, stores_next, stores_run, stores_after, call_outputs, stores_outputs}
use Rattle.history.specs.History.{stores_behind, offers_of}
use Rattle.history.specs.History.{reference_output, reference_next, reference_run, reference_outputs, reference_after}
use Rattle.history.specs.History.{windows_of_call, windows_of, Meets, last_next, joined, matching_rows}
use Rattle.history.specs.History.Call.{observe, batch, line, store_asset, request, body}
use Rattle.history.specs.History.Output.{observed}
use Rattle.std.specs.Prelude.{Ok, Err}
use Rattle.spec.proofs.Elements.{each-append}
use Rattle.spec.specs.Answers.{Answer, ObserveAnswer}
use Rattle.history.proofs.Recorded.{Numbered}
use Rattle.history.proofs.Agree.{Good, bytes, last-is, observe-agree, store-agree, request-agree, body-agree}
use Rattle.history.proofs.Agree.{right-head, right-assets}
use Rattle.history.proofs.Offers.{offers-base, offers-assets, batch-agree}
use Rattle.history.proofs.Lines.{line-agree}
use Rattle.history.proofs.Begin.{Begins, start-answers, start-good}
use Rattle.history.proofs.Windows.{AllTrue, Later, later-after, call-true, SameItems, meet, same-items}

-- ---- one call

-- the stores that stand for p
abbrev pub stores : State → List ℕ → Stores
stores p st = record { observations = st; assets = bytes p }

module _ (model names : List ℕ) (p : State) (st : List ℕ) (G : Good model names p st) where
  output-is : (c : Call) → Typed c → stores_output model names (stores p st) c ≡ reference_output model names p c
  output-is (observe item time host v) t =
      ap (λ (x : ObserveAnswer). observed x ∷ []) (observe-agree model names p st G item time host v t).0
  output-is (batch records host answers) t =
      let g = batch-agree model names p st G records host answers in
      rw (g.0, g.1)
  output-is (line text host) t =
      ap (λ (x : ObserveAnswer). observed x ∷ []) (line-agree model names p st G host text).0
  output-is (store_asset id content host) t = rw (store-agree model names p st G id content host).0
  output-is (request text reply) t = rw (request-agree model names p st G text reply)
  output-is (body id) t = rw (body-agree model names p st G id)

  pub next-good : (c : Call) → Typed c
      → Good model names (reference_next model names p c) (stores_next model names (stores p st) c).observations
  unfolding offers_next
  next-good (observe item time host v) t = (observe-agree model names p st G item time host v t).1
  next-good (batch records host answers) t = (batch-agree model names p st G records host answers).2
  next-good (line text host) t = (line-agree model names p st G host text).1
  next-good (store_asset id content host) t = (store-agree model names p st G id content host).1
  next-good (request text reply) t = G
  next-good (body id) t = G

  next-assets : (c : Call) → (stores_next model names (stores p st) c).assets ≡ bytes (reference_next model names p c)
  next-assets (observe item time host v) = offers-assets model names (offers_of model names (observe item time host v)) p
  next-assets (batch records host answers) =
      offers-assets model names (offers_of model names (batch records host answers)) p
  next-assets (line text host) = offers-assets model names (offers_of model names (line text host)) p
  next-assets (store_asset id content host) = (store-agree model names p st G id content host).2
  next-assets (request text reply) = refl
  next-assets (body id) = refl

  next-is : (c : Call) → stores_next model names (stores p st) c ≡ stores (reference_next model names p c) (stores_next model names (stores p st) c).observations
  next-is c = ap (λ (b : List ℕ). record { observations = (stores_next model names (stores p st) c).observations; assets = b }) (next-assets c)

-- ---- every list of calls

module _ (model names : List ℕ) where
  run_is : (cs : List Call) (p : State) (st : List ℕ) → Good model names p st → AllTyped cs
      → stores_run model names (stores p st) cs ≡ reference_run model names p cs
  unfolding stores_run reference_run
  run_is [] p st G t = refl
  run_is (c ∷ cs) p st G t =
      rw (
        output-is model names p st G c t.0,
        next-is model names p st G c,
        run_is cs (reference_next model names p c) (stores_next model names (stores p st) c).observations (next-good model names p st G c t.0) t.1,
      )

  -- the stores left stand for the reference model's state
  after-good : (cs : List Call) (p : State) (st : List ℕ) → Good model names p st → AllTyped cs
      → Good model names (reference_after model names p cs) (stores_after model names (stores p st) cs).observations
  unfolding reference_after stores_after
  after-good [] p st G t = G
  after-good (c ∷ cs) p st G t =
      let p' : State = reference_next model names p c in
      subst
      (λ (s : Stores). Good model names (reference_after model names p' cs) (stores_after model names s cs).observations)
      (sym (next-is model names p st G c))
      (after-good cs p' (stores_next model names (stores p st) c).observations
      (next-good model names p st G c t.0) t.1)

  base-next : (p : State) (c : Call) → (reference_next model names p c).B ≡ p.B
  base-next p (observe item time host v) = offers-base model names (offers_of model names (observe item time host v)) p
  base-next p (batch records host answers) =
      offers-base model names (offers_of model names (batch records host answers)) p
  base-next p (line text host) = offers-base model names (offers_of model names (line text host)) p
  base-next p (store_asset id content host) = go (store_answer model names p id content)
    where
      go : (x : Answer) → (store_next x model p id content host).B ≡ p.B
      go (Ok n) = refl
      go (Err r) = refl
  base-next p (request text reply) = refl
  base-next p (body id) = refl

  pub base-after : (cs : List Call) (p : State) → (reference_after model names p cs).B ≡ p.B
  unfolding reference_after
  base-after [] p = refl
  base-after (c ∷ cs) p = base-after cs (reference_next model names p c) ∙ base-next p c

  -- H's numbers are B, B + 1, .. behind every list
  numbered-after : (cs : List Call) (p : State) (st : List ℕ) → Good model names p st → AllTyped cs
      → Numbered p.B (reference_after model names p cs).H
  numbered-after cs p st G t =
      subst (λ (b : ℕ). Numbered b (reference_after model names p cs).H) (base-after cs p)
      (after-good cs p st G t).rep.numbered

-- ---- one client

module _ (a : Start) where
  client-true : (mine : ℕ → Bool) (i : ℕ) (cs : List Call) (p : State) (st : List ℕ) → Good a.model a.names p st → AllTyped cs
      → AllTrue a (reference_after a.model a.names p cs).H (windows_of mine i cs (reference_run a.model a.names p cs))
  unfolding windows_of reference_run reference_after
  client-true mine i [] p st G t = tt
  client-true mine i (c ∷ cs) p st G t =
      each-append _ (cond (mine i) (windows_of_call c (reference_output a.model a.names p c)) [])
      (windows_of mine (suc i) cs (reference_run a.model a.names (reference_next a.model a.names p c) cs))
      (go (mine i))
      (client-true mine (suc i) cs (reference_next a.model a.names p c) (stores_next a.model a.names (stores p st) c).observations
      (next-good a.model a.names p st G c t.0) t.1)
    where
      K : List Observation
      K = (reference_after a.model a.names p (c ∷ cs)).H

      g : Later a p.H K
      g = later-after a (c ∷ cs) p

      go : (u : Bool) → AllTrue a K (cond u (windows_of_call c (reference_output a.model a.names p c)) [])
      go false = tt
      go true =
          subst (λ (L : List Observation). AllTrue a L (windows_of_call c (reference_output a.model a.names p c))) (sym g.1)
          (call-true a p c g.0 G.right G.rep.numbered (last-is a.model a.names p st G)
          (subst (λ (L : List Observation). Numbered p.B L) g.1 (numbered-after a.model a.names (c ∷ cs) p st G t)))

-- ---- the theorem

module _ (a : Start) (p : State) (accepted : begins a ≡ begun p) where
  good : Begins a p
  good = start-good a p accepted

  -- the calls' outputs
  pub calls-agree : (cs : List Call) → AllTyped cs → call_outputs a cs ≡ reference_run a.model a.names p cs
  unfolding call_outputs
  calls-agree cs t =
      ap (λ (b : List ℕ). stores_run a.model a.names (record { observations = (stores_start a).observations; assets = b }) cs) good.assets
      ∙ run_is a.model a.names cs p (stores_start a).observations good.good t

  pub answers : (cs : List Call) → AllTyped cs → stores_outputs a cs ≡ reference_outputs a p cs
  unfolding stores_outputs reference_outputs
  answers cs t = rw (start-answers a, calls-agree cs t)

  -- windows whose paths select the same items
  pub windows-selections : (cs : List Call) → AllTyped cs → (mine : ℕ → Bool) (w : Window) (ws : List Window)
      → windows_of mine 0 cs (call_outputs a cs) ≡ w ∷ ws
      → Meets (SameItems a w.path) w.next ws
      → joined (w ∷ ws) ≡ matching_rows a w.path w.begin (last_next w.next ws) (reference_after a.model a.names p cs).H
  unfolding joined
  windows-selections cs t mine w ws e m =
      let all : AllTrue a K (w ∷ ws) =
      subst (λ (x : List Window). AllTrue a K x) (sym (ap (windows_of mine 0 cs) (calls-agree cs t)) ∙ e)
      (client-true a mine 0 cs p (stores_start a).observations good.good t) in
      ap (λ (r : List (List ℕ)). r ++ joined ws) all.0.0
      ∙ meet a w.path K p.B w.begin w.next ws (numbered-after a.model a.names cs p (stores_start a).observations good.good t) all.0.1 all.1 m
    where
      K : List Observation
      K = (reference_after a.model a.names p cs).H

-- demand 3
pub history : (a : Start) (p : State) → begins a ≡ begun p → (cs : List Call) → AllTyped cs → History a p cs
history a p e cs t =
    record {
      answers = answers a p e cs t;
      windows = λ mine w ws f m. windows-selections a p e cs t mine w ws f (same-items a w.path w.next ws m);
    }

-- ---- what follows for every list

module _ (a : Start) (p : State) (accepted : begins a ≡ begun p) where
  pub behind-good : (cs : List Call) → AllTyped cs
      → Good a.model a.names (reference_after a.model a.names p cs) (stores_behind a cs).observations
  behind-good cs t =
      let B = start-good a p accepted in
      rw B.assets (after-good a.model a.names cs p (stores_start a).observations B.good t)

  -- H's numbers are B, B + 1, .. without gap or repeat, up to last
  pub record Sequence (H : List Observation) : Type 0 where
    pub numbers : Numbered a.B H
    pub last : suc (last_or 0 H) ≡ a.B + length H

  pub sequence : (cs : List Call) → AllTyped cs → Sequence (reference_after a.model a.names p cs).H
  sequence cs t =
      let B = start-good a p accepted in
      let g = behind-good cs t in
      let b : (reference_after a.model a.names p cs).B ≡ a.B = base-after a.model a.names cs p ∙ B.base in
      record {
        numbers = subst (λ (n : ℕ). Numbered n (reference_after a.model a.names p cs).H) b g.rep.numbered;
        last =
            last-is a.model a.names (reference_after a.model a.names p cs) _ g
            ∙ ap (λ (n : ℕ). n + length (reference_after a.model a.names p cs).H) b;
      }

  -- start's stores pass the head rules
  pub start-heads : (head_ok (items a.model) (stores_start a).observations ≡ true) × (asset_head_ok (stores_start a).assets ≡ true)
  start-heads =
      let B = start-good a p accepted in (
        right-head a.model a.names p (stores_start a).observations B.good,
        rw B.assets (right-assets a.model a.names p (stores_start a).observations B.good),
      )
