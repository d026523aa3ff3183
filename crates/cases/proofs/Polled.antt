-- A client that polls, worked: document 02, Req 04. What `late` asks for is met on either side of first.
use mathlib.Core.Path.{refl}
use Prim.Native.Nat.{◌≤◌, ◌<◌}
use mathlib.Core.List.{List, [], ◌∷◌, map}
use lib.Dec.{lit<, lit≤}
use lib.IntN.{pos}
use lib.ListN.{replicate}
use Rattle.spec.specs.Bytes.{bytes}
use Rattle.history.specs.Reference.{first_of}
use Rattle.history.specs.History.{Call}
use Rattle.history.specs.History.Output.{observed}
use Rattle.history.specs.Polls.{Gave, Polls, state_before}
use Rattle.spec.specs.declared.Value.TheVariants.{Sample}
use Rattle.spec.specs.declared.Refusal.TheVariants.{TooMany, InvalidXpath, Late, Early}
use Rattle.std.specs.Prelude.{Ok, Err, None}
use Rattle.spec.specs.declared.Noted.TheVariants.{Recorded}
use Rattle.cases.proofs.Opened.{opened}
use Rattle.cases.proofs.Fixtures.{Step, call_of, shows, refuses, ToolsGive, tool_start, tool_state}
use Rattle.cases.proofs.Fixtures.Step.{◌gives◌}

-- ---- a client that kept up, slept, and came back: N 4, B 1, first 1, 3 and 4

abbrev slept : List Step
slept =
    shows "/current" (2 ∷ 1 ∷ 2 ∷ 3 ∷ 1 ∷ 2 ∷ 1000 ∷ 0 ∷ 1000 ∷ 1099511627776 ∷ [])
    ∷ Call.observe 0 10 10 (Sample (pos 1)) gives observed (Ok (Recorded 3))
    ∷ Call.observe 0 11 11 (Sample (pos 2)) gives observed (Ok (Recorded 4))
    ∷ Call.observe 0 12 12 (Sample (pos 3)) gives observed (Ok (Recorded 5))
    ∷ Call.observe 0 13 13 (Sample (pos 4)) gives observed (Ok (Recorded 6))
    ∷ shows "/sample?from=3&count=1" (1 ∷ 3 ∷ 6 ∷ 4 ∷ 3 ∷ 10 ∷ 4294967297 ∷ [])
    ∷ Call.observe 0 14 14 (Sample (pos 5)) gives observed (Ok (Recorded 7))
    ∷ refuses "/sample?from=3" Late
    ∷ refuses "/sample?from=3&count=4&path=//Device" Late
    ∷ refuses "/sample?from=3&count=5" TooMany
    ∷ refuses "/sample?from=3&path=//Spindle" InvalidXpath
    ∷ shows "/sample?from=4&count=1" (1 ∷ 4 ∷ 7 ∷ 5 ∷ 4 ∷ 11 ∷ 4294967298 ∷ [])
    ∷ shows "/sample?from=8" (0 ∷ 4 ∷ 7 ∷ 8 ∷ [])
    ∷ refuses "/sample?from=9" Early
    ∷ []

pub slept-gives : ToolsGive 1 slept
unfolding opened
slept-gives = (refl, refl)

abbrev slept_calls : List Call
slept_calls = map call_of slept

-- `current` gave 3, and calls 5 and 7 poll from it: what the theorem asks for is met on either side of first
pub slept-gave : Gave (tool_start 1) slept_calls 0 3
unfolding opened
slept-gave =
    record {
      text = bytes "/current";
      k = 2;
      words = 2 ∷ 1 ∷ 2 ∷ 3 ∷ 1 ∷ 2 ∷ 1000 ∷ 0 ∷ 1000 ∷ 1099511627776 ∷ [];
      asks = record { buffer = replicate 10 7; call = refl; output = refl };
      gives = refl;
      next = refl;
    }

pub slept-late :
    Polls (tool_start 1) slept_calls 7 3 (Err Late)
    × (3 < first_of (state_before (tool_start 1) (tool_state 1) slept_calls 7))
unfolding opened
slept-late = (
  record {
    text = bytes "/sample?from=3";
    words = replicate 64 7;
    path = None;
    count = 0;
    asks = record { buffer = replicate 64 7; call = refl; output = refl };
    from = refl;
  },
  lit< tt,
)

pub slept-kept :
    Polls (tool_start 1) slept_calls 5 3 (Ok 1)
    × (first_of (state_before (tool_start 1) (tool_state 1) slept_calls 5) ≤ 3)
unfolding opened
slept-kept = (
  record {
    text = bytes "/sample?from=3&count=1";
    words = 1 ∷ 3 ∷ 6 ∷ 4 ∷ 3 ∷ 10 ∷ 4294967297 ∷ [];
    path = None;
    count = 1;
    asks = record { buffer = replicate 7 7; call = refl; output = refl };
    from = refl;
  },
  lit≤ tt,
)
