-- A batch and its single observes, over any stores: in a list of calls an accepted batch can be replaced by an observe
-- for each of its records, and nothing else of the list changes.
use mathlib.Core.Path.{◌≡◌, refl, sym, ap, ◌∙◌}
use Prim.Native.Nat.{ℕ, suc}
use mathlib.Core.List.{List, [], ◌∷◌, ◌++◌, map}
use lib.ListN.{length}
use Rattle.spec.specs.Value.{decode}
use Rattle.spec.specs.Reply.{over}
use Rattle.spec.specs.Answers.{Answer, ObserveAnswer, observe_word}
use Rattle.history.specs.Calls.{Batched, observe_all, admitted, batch_by, observe_batch}
use Rattle.history.specs.Calls
use Rattle.history.specs.History.{Call, Output, Stores, stores_next, stores_run, stores_after, singles, BatchSingles}
use Rattle.history.specs.History.Call.{batch}
use Rattle.history.specs.History.Output.{observed, batched}
use Rattle.spec.specs.declared.Record.{Record}
use Rattle.std.specs.Prelude.{Ok, Err}
use Rattle.history.proofs.Admission.{by-admission}

module _ (model names : List ℕ) where
  abbrev run : Stores → List Call → List (List Output)
  run s cs = stores_run model names s cs

  abbrev after : Stores → List Call → Stores
  after s cs = stores_after model names s cs

  -- ---- lists of calls one behind the other

  run-append : (cs ds : List Call) (s : Stores) → run s (cs ++ ds) ≡ run s cs ++ run (after s cs) ds
  unfolding stores_run stores_after
  run-append [] ds s = refl
  run-append (c ∷ cs) ds s = rw (run-append cs ds (stores_next model names s c))

  after-append : (cs ds : List Call) (s : Stores) → after s (cs ++ ds) ≡ after (after s cs) ds
  unfolding stores_after
  after-append [] ds s = refl
  after-append (c ∷ cs) ds s = after-append cs ds (stores_next model names s c)

  -- ---- single observes

  module _ (host : ℕ) where
    abbrev single : List ℕ → Record → Calls.Observed
    single st r = Calls.observe model names st r.item r.time host (decode r.value)

    -- their answers
    single_answers : List Record → List ℕ → List ObserveAnswer
    single_answers [] st = []
    single_answers (r ∷ rs) st = (single st r).answer ∷ single_answers rs (single st r).observations

    -- their store, the assets as they were
    abbrev behind : List Record → Stores → Stores
    behind rs s =
        record { observations = (observe_all model names s.observations host rs).observations; assets = s.assets }

    one_each : (rs : List Record) (st : List ℕ) → length (single_answers rs st) ≡ length rs
    unfolding single_answers
    one_each [] st = refl
    one_each (r ∷ rs) st = ap suc (one_each rs (single st r).observations)

    words_are : (rs : List Record) (st : List ℕ)
        → (observe_all model names st host rs).words ≡ map observe_word (single_answers rs st)
    unfolding observe_all single_answers
    words_are [] st = refl
    words_are (r ∷ rs) st = rw (words_are rs (single st r).observations)

    run-singles : (rs : List Record) (s : Stores)
        → run s (singles host rs) ≡ map (λ x. observed x ∷ []) (single_answers rs s.observations)
    unfolding stores_run single_answers
    run-singles [] s = refl
    run-singles (r ∷ rs) s =
        rw (run-singles rs (record { observations = (single s.observations r).observations; assets = s.assets }))

    after-singles : (rs : List Record) (s : Stores) → after s (singles host rs) ≡ behind rs s
    unfolding stores_after observe_all
    after-singles [] s = refl
    after-singles (r ∷ rs) s =
        after-singles rs (record { observations = (single s.observations r).observations; assets = s.assets })

  -- ---- an accepted batch

  -- its answer is the number of its records
  admitted-all : (st : List ℕ) (n k j : ℕ) → admitted model names st n k ≡ Ok j → admitted model names st n k ≡ Ok n
  admitted-all st n k j =
      by-admission model names st n k (λ (x : Answer). x ≡ Ok j → x ≡ Ok n) (λ r e. cc) (λ a b c d e. refl)

  answered-by : (x : Answer) (q : Calls.Answered) (st answers : List ℕ) → (batch_by x q st answers).answer ≡ x
  answered-by (Ok n) q st answers = refl
  answered-by (Err r) q st answers = refl

  accepted-is : (st : List ℕ) (rs : List Record) (host : ℕ) (answers : List ℕ) (j : ℕ)
      → (observe_batch model names st rs host answers).answer ≡ Ok j
      → observe_batch model names st rs host answers
      ≡ batch_by (Ok (length rs)) (observe_all model names st host rs) st answers
  unfolding observe_batch
  accepted-is st rs host answers j e =
      let x = admitted model names st (length rs) (length answers) in
      let q = observe_all model names st host rs in
      ap (λ (y : Answer). batch_by y q st answers)
      (admitted-all st (length rs) (length answers) j (sym (answered-by x q st answers) ∙ e))

  pub batch-singles : (s : Stores) (cs : List Call) (rs : List Record) (host : ℕ) (answers : List ℕ) (ds : List Call)
      (j : ℕ)
      → (observe_batch model names (stores_after model names s cs).observations rs host answers).answer ≡ Ok j
      → BatchSingles model names s cs rs host answers ds
  unfolding stores_run stores_after
  batch-singles s cs rs host answers ds j accepted =
      record {
        single = ones;
        before = run s cs;
        behind = run left ds;
        calls_before = refl;
        one_each = one_each host rs t.observations;
        outputs = run-append cs (batch rs host answers ∷ ds) s ∙ ap run-before run-batch;
        single_outputs = run-append cs (singles host rs ++ ds) s ∙ ap run-before run-ones;
        stores =
            after-append cs (batch rs host answers ∷ ds) s ∙ both ∙ sym (after-append cs (singles host rs ++ ds) s);
      }
    where
      t : Stores
      t = after s cs

      run-before : List (List Output) → List (List Output)
      run-before x = run s cs ++ x

      left : Stores
      left = behind host rs t

      ones : List ObserveAnswer
      ones = single_answers host rs t.observations

      now : observe_batch model names t.observations rs host answers
          ≡ batch_by (Ok (length rs)) (observe_all model names t.observations host rs) t.observations answers
      now = accepted-is t.observations rs host answers j accepted

      next : stores_next model names t (batch rs host answers) ≡ left
      next = ap (λ (o : Batched). record { observations = o.observations; assets = t.assets }) now

      told : List ℕ → Stores → List (List Output)
      told words u = (batched (Ok (length rs)) (over words answers) ∷ []) ∷ run u ds

      run-batch : run t (batch rs host answers ∷ ds) ≡ told (map observe_word ones) left
      run-batch =
          let u : Stores = stores_next model names t (batch rs host answers) in
          ap (λ (o : Batched). (batched o.answer o.answers ∷ []) ∷ run u ds) now
          ∙ ap (λ (ws : List ℕ). told ws u) (words_are host rs t.observations)
          ∙ ap (told (map observe_word ones)) next

      run-ones : run t (singles host rs ++ ds) ≡ map (λ x. observed x ∷ []) ones ++ run left ds
      run-ones =
          run-append (singles host rs) ds t
          ∙ ap (λ (x : List (List Output)). x ++ run (after t (singles host rs)) ds) (run-singles host rs t)
          ∙ ap (λ (u : Stores). map (λ x. observed x ∷ []) ones ++ run u ds) (after-singles host rs t)

      both : after t (batch rs host answers ∷ ds) ≡ after t (singles host rs ++ ds)
      both =
          ap (λ (u : Stores). after u ds) next
          ∙ sym (after-append (singles host rs) ds t ∙ ap (λ (u : Stores). after u ds) (after-singles host rs t))
