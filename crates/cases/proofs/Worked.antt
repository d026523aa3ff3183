-- Worked examples of calls, by computation: assets, times, the stores word by word and byte by byte; and one client's
-- two windows, so that the history theorem's second field speaks of something. The terms have theirs in spec's
-- Examples; Bounds, Orders and Damaged have the rest of the calls'.
use mathlib.Core.Path.{◌≡◌, refl}
use mathlib.Core.Bool.{true}
use mathlib.Core.List.{List, [], ◌∷◌, ◌++◌, map}
use lib.IntN.{pos}
use lib.ListN.{replicate}
use Rattle.spec.specs.Bytes.{bytes, pad}
use Rattle.history.specs.History.{Call, Stores, Start, Window, stores_behind, call_outputs, windows_of, Meets}
use Rattle.history.specs.History.Output.{observed, stored, returned}
use Rattle.cases.specs.Bench.{bench_start, bench_observes, bench_stores}
use Rattle.spec.specs.declared.Value.TheVariants.{Sample}
use Rattle.std.specs.Prelude.{Ok, None}
use Rattle.spec.specs.declared.Noted.TheVariants.{Recorded}
use Rattle.cases.proofs.Opened.{opened}
use Rattle.cases.proofs.Fixtures.{Step, call_of, shows, ToolsGive, tool_start, bench_store}
use Rattle.cases.proofs.Fixtures.Step.{◌gives◌}

-- ---- assets

-- an asset is stored, another, the first anew; then what is asked for
abbrev tool_steps : List Step
tool_steps =
    Call.store_asset (bytes "a") (7 ∷ []) 10 gives stored (Ok 0)
    ∷ Call.store_asset (bytes "b") (8 ∷ 9 ∷ []) 20 gives stored (Ok 1)
    ∷ Call.store_asset (bytes "a") (1 ∷ 2 ∷ 3 ∷ []) 30 gives stored (Ok 1)
    ∷ shows "/assets" (2 ∷ 2 ∷ 2 ∷ 0 ∷ 1 ∷ 0 ∷ 3 ∷ 2 ∷ 7 ∷ 7 ∷ [])
    ∷ shows "/asset/b;a;b" (3 ∷ 2 ∷ 2 ∷ 0 ∷ 0 ∷ 1 ∷ 0 ∷ 2 ∷ 3 ∷ 2 ∷ [])
    ∷ Call.body (bytes "a") gives returned (1 ∷ 2 ∷ 3 ∷ [])
    ∷ shows "/sample?path=//Device//DataItem[@type=\"ASSET_CHANGED\"]"
    (4 ∷ 2 ∷ 5 ∷ 6 ∷ 2 ∷ 3 ∷ 4 ∷ 5
    ∷ 1000 ∷ 1099511627776 ∷ 10 ∷ 1108101562368 ∷ 20 ∷ 1108101562369 ∷ 30 ∷ 1108101562369 ∷ []) ∷ []

-- the cells; newest first; the text's order with a repeat; the newest body; an event each time, the last one equal
-- to the one before
pub tools : ToolsGive 1 tool_steps
unfolding opened
tools = (refl, refl)

-- ---- times

-- a time of 0 is missing: the host's, which may be 0 too; times need not rise
pub times :
    ToolsGive 1
    (Call.observe 0 0 50 (Sample (pos 1)) gives observed (Ok (Recorded 3))
    ∷ Call.observe 0 60 70 (Sample (pos 2)) gives observed (Ok (Recorded 4))
    ∷ Call.observe 0 40 70 (Sample (pos 3)) gives observed (Ok (Recorded 5))
    ∷ Call.observe 0 0 0 (Sample (pos 4)) gives observed (Ok (Recorded 6))
    ∷ shows "/sample"
    (4 ∷ 3 ∷ 6 ∷ 7 ∷ 3 ∷ 4 ∷ 5 ∷ 6
    ∷ 50 ∷ 4294967297 ∷ 60 ∷ 4294967298 ∷ 40 ∷ 4294967299 ∷ 0 ∷ 4294967300 ∷ []) ∷ [])
unfolding opened
times = (refl, refl)

-- ---- the stores, word by word and byte by byte

-- behind the bench case's observes
pub bench-words : bench_stores.observations ≡ bench_store
unfolding opened
bench-words = refl

abbrev tool_stores : Stores
tool_stores = stores_behind (tool_start 1) (map call_of tool_steps)

-- behind the calls above: A and u; the id cells, b and then a; the body cells, the length in two bytes before each
-- body
pub tool-bytes :
    tool_stores.assets
    ≡ 2 ∷ 2
    ∷ (pad 32 (bytes "b")
    ++ (pad 32 (bytes "a")
    ++ (pad 512 (0 ∷ 2 ∷ 8 ∷ 9 ∷ [])
    ++ pad 512 (0 ∷ 3 ∷ 1 ∷ 2 ∷ 3 ∷ []))))
unfolding opened
tool-bytes = refl

-- ---- one client's windows

-- the bench case; a sample, one that is refused, an observe, and a sample that goes on where the first ended
abbrev client_start : Start
client_start = bench_start (replicate 106 0) (replicate 546 0)

abbrev client_calls : List Call
client_calls =
    bench_observes
    ++ (Call.request (bytes "/sample?count=2") (replicate 64 0)
    ∷ Call.request (bytes "/sample?from=1") (replicate 64 0)
    ∷ Call.observe 1 1040 1040 (Sample (pos 7))
    ∷ Call.request (bytes "/sample?from=4") (replicate 64 0)
    ∷ [])

abbrev first_window : Window
first_window =
    record {
      path = None;
      begin = 2;
      next = 4;
      rows = (2 ∷ 1000 ∷ 1099511627776 ∷ []) ∷ (3 ∷ 1010 ∷ 1103806600072 ∷ []) ∷ [];
    }

abbrev second_window : Window
second_window =
    record {
      path = None;
      begin = 4;
      next = 6;
      rows = (4 ∷ 1030 ∷ 1108101562367 ∷ []) ∷ (5 ∷ 1040 ∷ 1103806595079 ∷ []) ∷ [];
    }

-- what its accepted samples deliver
pub two-windows :
    windows_of (λ i. true) 0 client_calls (call_outputs client_start client_calls) ≡ first_window ∷ second_window ∷ []
unfolding opened
two-windows = refl

-- and they meet
pub two-meet : Meets (λ path. path ≡ None) 4 (second_window ∷ [])
two-meet = (refl, refl, tt)
