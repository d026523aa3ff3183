-- Where two faults meet, the refusal that comes first in document 01's order is given: calls that have both, of both
-- layers unless one of the two is 2, which the reference model doesn't have.
use Prim.Native.Nat.{ℕ}
use mathlib.Core.Path.{◌≡◌, refl}
use mathlib.Core.List.{List, [], ◌∷◌, ◌++◌}
use lib.IntN.{pos}
use lib.ListN.{replicate}
use Rattle.spec.specs.Bytes.{bytes, pad}
use Rattle.history.specs.Calls
use Rattle.history.specs.Reference
use Rattle.history.specs.History.{Call}
use Rattle.history.specs.History.Output.{observed}
use Rattle.cases.specs.Bench.{bench_model, bench_names}
use Rattle.spec.specs.declared.Level.TheVariants.{Normal}
use Rattle.spec.specs.declared.Value.TheVariants.{Unavailable, Sample, Event, Condition}
use Rattle.std.specs.Prelude.{Ok, Err}
use Rattle.spec.specs.declared.Noted.TheVariants.{Same}
use Rattle.spec.specs.declared.Refusal.TheVariants.{Model, Store, Item, Kind, Spent, InvalidUri}
use Rattle.spec.specs.declared.Refusal.TheVariants.{InvalidRequest, Unsupported, TooMany, InvalidXpath}
use Rattle.spec.specs.declared.Refusal.TheVariants.{AssetNotFound, Asset, Late, Early}
use Rattle.cases.proofs.Opened.{opened}
use Rattle.cases.proofs.Fixtures.{Step, refuses, refuses_in, stores, StoresGive, BothGive, ToolsGive}
use Rattle.cases.proofs.Fixtures.{BenchGives, firsts, plain_names, no_assets, tool_model, tool_names}
use Rattle.cases.proofs.Fixtures.{tool_state, bench_with, bench_store}
use Rattle.cases.proofs.Fixtures.Step.{◌gives◌}

-- ---- requests

-- 7 before 8 and 9; 8 for another word before 9; 9 for probe before 8; 8 before 9 for interval; 9 before
-- 10, 11, 17 and 18; 8 before 17 and 18
pub text-orders :
    BenchGives
    (refuses "probe" InvalidUri
    ∷ refuses "/Sample " InvalidUri
    ∷ refuses "/samples?interval=5" InvalidRequest
    ∷ refuses "/probe?count=0" Unsupported
    ∷ refuses "/sample?interval=5&count=0" InvalidRequest
    ∷ refuses "/sample?interval=5&from=x" InvalidRequest
    ∷ refuses "/current?interval=5&at=9" InvalidRequest
    ∷ refuses "/sample?interval=5&count=4" Unsupported
    ∷ refuses "/sample?interval=5&path=//Spindle" Unsupported
    ∷ refuses "/sample?interval=5&from=1" Unsupported
    ∷ refuses "/sample?interval=5&from=6" Unsupported
    ∷ refuses "/sample?from=1&from=1" InvalidRequest
    ∷ refuses "/sample?from=6&count=0" InvalidRequest ∷ [])
unfolding opened
text-orders = (refl, refl)

-- 10 before 11, 17 and 18; 11 before 17 and 18, of `from` and of `at`; all of them before 15. N is 3, first 2, last 4
pub request-orders :
    BenchGives
    (refuses "/sample?count=4&path=//Spindle" TooMany
    ∷ refuses "/sample?count=4&from=1" TooMany
    ∷ refuses "/sample?count=4&from=6" TooMany
    ∷ refuses "/sample?count=4&from=6&path=//Spindle" TooMany
    ∷ refuses "/sample?from=1&path=//Spindle" InvalidXpath
    ∷ refuses "/sample?from=6&path=//Spindle" InvalidXpath
    ∷ refuses "/current?at=1&path=//Spindle" InvalidXpath
    ∷ refuses "/current?at=5&path=//Axes//DataItem[@type=\"AVAILABILITY\"]" InvalidXpath
    ∷ refuses "/sample?from=1&count=3&path=//Axes" Late
    ∷ refuses "/sample?from=6&count=3&path=//Axes" Early
    ∷ refuses "/current?at=1&path=//Axes" Late
    ∷ refuses "/current?at=5&path=//Axes" Early
    ∷ refuses_in 3 "/sample?count=4" TooMany
    ∷ refuses_in 3 "/current?path=//Spindle" InvalidXpath
    ∷ refuses_in 3 "/sample?from=1" Late
    ∷ refuses_in 3 "/sample?from=6" Early
    ∷ refuses_in 3 "/current?at=1" Late
    ∷ refuses_in 3 "/current?at=5" Early
    ∷ refuses_in 3 "/asset/a" AssetNotFound ∷ [])
unfolding opened
request-orders = (refl, refl)

-- the ring words of numbers 2, 3 and 4 have item 2, which the model doesn't have
abbrev DamagedGives : List Step → Type 0
DamagedGives =
    StoresGive bench_model bench_names
    (record { observations = bench_with 2199023255552 2199023255552 2199023255552; assets = no_assets })

-- 10, 11, 17 and 18 before 2; 2 before 15
pub ring-orders :
    DamagedGives
    (refuses "/sample" Store
    ∷ refuses "/current?at=4" Store
    ∷ refuses "/sample?count=4" TooMany
    ∷ refuses "/sample?path=//Spindle" InvalidXpath
    ∷ refuses "/sample?from=1" Late
    ∷ refuses "/sample?from=6" Early
    ∷ refuses "/current?at=1" Late
    ∷ refuses "/current?at=5" Early
    ∷ refuses_in 3 "/sample" Store
    ∷ refuses_in 3 "/current?at=4" Store ∷ [])
unfolding opened
ring-orders = refl

-- an asset store whose one asset, a, has the length 0
abbrev no_length : List ℕ
no_length = 2 ∷ 1 ∷ (pad 64 (bytes "a") ++ replicate 1024 0)

-- 13 before 2, whichever id comes first; 2 before 15
pub asset-orders :
    StoresGive bench_model bench_names (record { observations = bench_store; assets = no_length })
    (refuses "/asset/a" Store
    ∷ refuses "/asset/a;b" AssetNotFound
    ∷ refuses "/asset/b;a" AssetNotFound
    ∷ refuses "/asset/a;" InvalidRequest
    ∷ refuses_in 3 "/asset/a" Store
    ∷ refuses_in 3 "/assets" Store ∷ [])
unfolding opened
asset-orders = refl

-- ---- observe

-- 4 before 5: a value that no item takes, of an item that isn't there
pub item-orders :
    BenchGives
    (Call.observe 2 10 10 (Condition Normal 16777216) gives observed (Err Item)
    ∷ Call.observe 1 10 10 (Condition Normal 16777216) gives observed (Err Kind)
    ∷ Call.observe 1 10 10 (Event 1) gives observed (Err Kind) ∷ [])
unfolding opened
item-orders = (refl, refl)

-- 5 before Same: the latest word of the sample item is that of an event
pub kind-orders :
    StoresGive bench_model bench_names
    (record {
      observations = 1 ∷ 2 ∷ 1 ∷ 2
          ∷ 0 ∷ 1099511627776
          ∷ (firsts (1 ∷ 2 ∷ 0 ∷ 0 ∷ 0 ∷ 1108101562375 ∷ []) ++ replicate 48 0);
      assets = no_assets;
    })
    (Call.observe 1 10 10 (Event 7) gives observed (Err Kind) ∷ [])
unfolding opened
kind-orders = refl

-- last is 2^63 - 1: 4, 5 and Same before 6
pub spent-orders :
    ToolsGive 9223372036854775806
    (Call.observe 2 10 10 (Sample (pos 5)) gives observed (Err Item)
    ∷ Call.observe 0 10 10 (Event 5) gives observed (Err Kind)
    ∷ Call.observe 1 10 10 Unavailable gives observed (Err Kind)
    ∷ Call.observe 0 10 10 Unavailable gives observed (Ok Same)
    ∷ Call.observe 0 10 10 (Sample (pos 5)) gives observed (Err Spent)
    ∷ stores [] (5 ∷ []) (Err Asset)
    ∷ stores (bytes "a") [] (Err Asset)
    ∷ stores (bytes "a") (5 ∷ []) (Err Spent) ∷ [])
unfolding opened
spent-orders = (refl, refl)

-- the ring is full, its words have an item that the model doesn't have
abbrev wrong_entry : ℕ → List ℕ
wrong_entry l = 1 ∷ 2 ∷ 1 ∷ l ∷ 0 ∷ 2199023255552 ∷ replicate 96 0

abbrev EntryGives : ℕ → List Step → Type 0
EntryGives l = StoresGive tool_model tool_names (record { observations = wrong_entry l; assets = no_assets })

-- 4, 5, Same and 14 before 2 for the entry about to be overwritten, and so is 6
pub entry-orders :
    EntryGives 2
    (Call.observe 2 10 10 (Sample (pos 5)) gives observed (Err Item)
    ∷ Call.observe 0 10 10 (Event 5) gives observed (Err Kind)
    ∷ Call.observe 0 10 10 Unavailable gives observed (Ok Same)
    ∷ Call.observe 0 10 10 (Sample (pos 5)) gives observed (Err Store)
    ∷ stores [] (5 ∷ []) (Err Asset)
    ∷ stores (bytes "a") (5 ∷ []) (Err Store) ∷ [])
    × EntryGives 9223372036854775807
    (Call.observe 0 10 10 Unavailable gives observed (Ok Same)
    ∷ Call.observe 0 10 10 (Sample (pos 5)) gives observed (Err Spent)
    ∷ stores [] (5 ∷ []) (Err Asset)
    ∷ stores (bytes "a") (5 ∷ []) (Err Spent) ∷ [])
unfolding opened
entry-orders = (refl, refl)

-- ---- model and heads come first

-- 1 before 2, 4, 7 and 14, and before 3
pub model-orders :
    BothGive [] plain_names (record { observations = []; assets = [] }) (tool_state 1)
    (Call.observe 9 10 10 Unavailable gives observed (Err Model)
    ∷ stores [] [] (Err Model)
    ∷ refuses_in 0 "x" Model ∷ [])
    × ((Calls.start [] plain_names [] [] 0 0 0 0).answer ≡ Err Model)
    × (Reference.begin_answer (Reference.begin [] plain_names 0 0 0 0 0 0) ≡ Err Model)
unfolding opened
model-orders = ((refl, refl), refl, refl)

-- 2 for a head before 4, 7, 8, 13 and 14; observe takes the observation store alone, store-asset and request take both
pub head-orders :
    StoresGive bench_model bench_names (record { observations = []; assets = no_assets })
    (Call.observe 9 10 10 Unavailable gives observed (Err Store)
    ∷ stores [] [] (Err Store)
    ∷ refuses "x" Store
    ∷ refuses "/assets" Store ∷ [])
    × StoresGive bench_model bench_names (record { observations = bench_store; assets = [] })
    (Call.observe 9 10 10 Unavailable gives observed (Err Item)
    ∷ stores [] [] (Err Store)
    ∷ refuses "x" Store
    ∷ refuses "/asset/a" Store
    ∷ refuses "/sample?count=0" Store ∷ [])
unfolding opened
head-orders = (refl, refl)
