-- The bench cases C1 to C10, twelve requests, by computation: the stores' calls and the reference model give what
-- document 01 says.
use mathlib.Core.Path.{◌≡◌, refl}
use mathlib.Core.List.{List, [], ◌∷◌, map}
use lib.ListN.{replicate}
use Rattle.history.specs.Reference.{State, unavailable, reply}
use Rattle.history.specs.Reference.Begun.{begun}
use Rattle.history.specs.History.{Call, AllTyped, History, Output, Start, begins, stores_outputs, reference_outputs}
use Rattle.history.specs.History.{reference_after}
use Rattle.history.specs.History.Output.{started, observed}
use Rattle.cases.specs.Bench.{bench_model, bench_names, bench_start, bench_observes, bench_request, cases, filled}
use Rattle.cases.specs.Bench.{expected}
use Rattle.std.specs.Prelude.{Ok}
use Rattle.spec.specs.declared.Noted.TheVariants.{Recorded, Same}
use Rattle.cases.proofs.Opened.{opened}
use Rattle.history.proofs.History.{history}

-- the start's answer, then 3, Same and 4
abbrev answers : List (List Output)
answers =
    (started (Ok 0) ∷ []) ∷ (observed (Ok (Recorded 3)) ∷ []) ∷ (observed (Ok Same) ∷ [])
    ∷ (observed (Ok (Recorded 4)) ∷ []) ∷ []

abbrev start106 : Start
start106 = bench_start (replicate 106 0) (replicate 546 0)

-- the reference model's state behind the start
pub bench_state : State
unfolding unavailable
bench_state = record { N = 3; A = 1; B = 1; H = unavailable 2 1 0 1000; T = [] }

pub bench-begins : begins start106 ≡ begun bench_state
unfolding bench_state opened
bench-begins = refl

-- and behind the observes
abbrev pub known : State
known = reference_after bench_model bench_names bench_state bench_observes

-- the answers of start and observes, and each case's answer and whole reply: of the stores' calls, and of the
-- reference model
pub record Bench : Type 0 where
  pub outputs : stores_outputs start106 bench_observes ≡ answers
  pub stores : map (λ c. bench_request c.text filled) cases ≡ map expected cases
  pub outputs-reference : reference_outputs start106 bench_state bench_observes ≡ answers
  pub reference : map (λ c. reply bench_model bench_names known c.text filled) cases ≡ map expected cases

pub bench : Bench
unfolding bench_state opened
bench = record { outputs = refl; stores = refl; outputs-reference = refl; reference = refl }

-- the history theorem's hypothesis is met: here it is for every list behind the bench case's start
pub bench-history : (cs : List Call) → AllTyped cs → History start106 bench_state cs
bench-history cs t = history start106 bench_state bench-begins cs t
