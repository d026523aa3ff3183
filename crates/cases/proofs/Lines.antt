-- Worked adapter lines, read by both layers unless 2 is the answer, and written: document 02, Req 06. The bounds of each
-- number, the value by the item's category, where two refusals meet.
use Prim.Native.Nat.{ℕ}
use Prim.Native.String.{String}
use mathlib.Core.Path.{◌≡◌, refl}
use mathlib.Core.List.{List, [], ◌∷◌, ◌++◌}
use lib.IntN.{pos, negsuc}
use lib.ListN.{length, replicate}
use Rattle.spec.specs.Bytes.{bytes}
use Rattle.spec.specs.Reply.{refuse}
use Rattle.history.specs.Reference.{State}
use Rattle.history.specs.Calls.{write_line}
use Rattle.history.specs.History.{Call, Start}
use Rattle.history.specs.History.Output.{observed}
use Rattle.cases.specs.Bench.{bench_model, bench_names}
use Rattle.spec.specs.declared.Level.TheVariants.{Normal, Warning, Fault}
use Rattle.spec.specs.declared.Value.{Value}
use Rattle.spec.specs.declared.Value.TheVariants.{Unavailable, Sample, Event, Condition}
use Rattle.std.specs.Prelude.{Ok, Err}
use Rattle.spec.specs.Answers.{ObserveAnswer}
use Rattle.spec.specs.declared.Noted.TheVariants.{Recorded, Same}
use Rattle.spec.specs.declared.Refusal.{Refusal}
use Rattle.spec.specs.declared.Refusal.TheVariants.{Model, Store, Item, Kind, Spent, Space, Crowded, Line, Stamp}
use Rattle.cases.proofs.Opened.{opened}
use Rattle.cases.proofs.Fixtures.{Step, ◌gives◌, shows, StoresGive, BothGive, StartGives, ToolsGive, BenchGives}
use Rattle.cases.proofs.Fixtures.{plain_model, plain_names, no_assets, tool_model, tool_names, tool_state, blank_at}
use Rattle.cases.proofs.Fixtures.{alarm_model, alarm_names}

-- a line at host time 77: its number, Same, or the refusal
abbrev reads : String → ObserveAnswer → Step
reads text x = Call.line (bytes text) 77 gives observed x

abbrev records : String → ℕ → Step
records text n = reads text (Ok (Recorded n))

abbrev refuses : String → Refusal → Step
refuses text r = reads text (Err r)

-- ---- lines read

-- an empty stamp, and one that is time 0, take the host's time; a value that stands already is Same, stamp or no stamp
pub lines-observed :
    BenchGives
    (reads "|1|-0.001" (Ok Same)
    ∷ records "|1|5.05" 5
    ∷ reads "2026-11-21T08:30:00.250Z|1|5.050" (Ok Same)
    ∷ records "1970-01-01T00:00:02.000Z|1|-5" 6
    ∷ records "1970-01-01T00:00:00.000Z|01|0" 7
    ∷ reads "|1|-0.000" (Ok Same)
    ∷ shows "/sample?from=5"
    (3 ∷ 5 ∷ 7 ∷ 8 ∷ 5 ∷ 6 ∷ 7 ∷ 77 ∷ 1103806600122 ∷ 2000 ∷ 1108101557368 ∷ 77 ∷ 1103806595072 ∷ []) ∷ [])
unfolding opened
lines-observed = (refl, refl)

-- item 0 is an event, item 1 a sample: another category's form is 5, and so is UNAVAILABLE of neither
pub lines-by-category :
    BenchGives
    (records "|0|3" 5
    ∷ reads "|0|0000000003" (Ok Same)
    ∷ refuses "|0|-3" Kind
    ∷ refuses "|0|-0" Kind
    ∷ refuses "|0|3.0" Kind
    ∷ refuses "|0|NORMAL:0" Kind
    ∷ refuses "|1|FAULT:1" Kind
    ∷ records "|0|UNAVAILABLE" 6
    ∷ records "|1|UNAVAILABLE" 7
    ∷ reads "|1|UNAVAILABLE" (Ok Same) ∷ [])
unfolding opened
lines-by-category = (refl, refl)

-- the largest and the least of each, and one beyond
pub lines-bounds :
    BenchGives
    (records "|1|2147483.647" 5
    ∷ refuses "|1|2147483.648" Kind
    ∷ records "|1|-2147483.648" 6
    ∷ refuses "|1|-2147483.649" Kind
    ∷ refuses "|1|1234567890.5" Kind
    ∷ refuses "|1|12345678901" Line
    ∷ records "|0|4294967295" 7
    ∷ refuses "|0|4294967296" Kind
    ∷ refuses "|0|9999999999" Kind
    ∷ refuses "|0|10000000000" Line
    ∷ refuses "|2|5" Item
    ∷ refuses "|4294967296|5" Item
    ∷ refuses "|4294967297|5" Item
    ∷ refuses "|9999999999|5" Item
    ∷ refuses "|00000000001|5" Line ∷ [])
unfolding opened
lines-bounds = (refl, refl)

-- one condition item: a level and a code below 2^24, Normal of a code too; nine codes are crowded
abbrev alarm_start : Start
alarm_start =
    record {
      model = alarm_model;
      names = alarm_names;
      observations = replicate 60 99;
      assets = replicate 546 99;
      N = 4;
      A = 1;
      B = 1;
      host = 1000;
    }

abbrev alarm_state : State
alarm_state = record { N = 4; A = 1; B = 1; H = blank_at 1 0 ∷ []; T = [] }

pub lines-conditions :
    StartGives alarm_start alarm_state
    (reads "|0|NORMAL:7" (Ok Same)
    ∷ records "|0|FAULT:16777215" 2
    ∷ refuses "|0|FAULT:16777216" Kind
    ∷ refuses "|0|FAULT:9999999999" Kind
    ∷ refuses "|0|NORMAL:16777216" Kind
    ∷ refuses "|0|5" Kind
    ∷ reads "|0|FAULT:0016777215" (Ok Same)
    ∷ records "|0|WARNING:16777215" 3
    ∷ records "|0|NORMAL:16777215" 4
    ∷ reads "|0|NORMAL:0" (Ok Same)
    ∷ records "|0|WARNING:1" 5 ∷ records "|0|WARNING:2" 6 ∷ records "|0|WARNING:3" 7 ∷ records "|0|WARNING:4" 8
    ∷ records "|0|WARNING:5" 9 ∷ records "|0|WARNING:6" 10 ∷ records "|0|WARNING:7" 11 ∷ records "|0|FAULT:0" 12
    ∷ refuses "|0|FAULT:9" Crowded
    ∷ reads "|0|NORMAL:9" (Ok Same)
    ∷ records "|0|UNAVAILABLE" 13
    ∷ records "|0|NORMAL:0" 14 ∷ [])
unfolding opened
lines-conditions = (refl, refl)

-- category 3 takes nothing; the last number goes, 6 behind it, and a line that doesn't read is 20 all the same
pub lines-tools :
    ToolsGive 9223372036854775805
    (refuses "|1|UNAVAILABLE" Kind
    ∷ refuses "|1|0" Kind
    ∷ records "|0|5" 9223372036854775807
    ∷ refuses "|0|6" Spent
    ∷ reads "|0|5" (Ok Same)
    ∷ refuses "|0|6x" Line
    ∷ refuses "2099-02-29T00:00:00.000Z|0|6" Stamp ∷ [])
unfolding opened
lines-tools = (refl, refl)

-- ---- where two refusals meet

-- 20 by any field before 21, 21 before 4, 4 before 5
pub lines-orders :
    BenchGives
    (refuses "2100-01-01T00:00:00.000Z|1|5." Line
    ∷ refuses "2100-01-01T00:00:00.000Z|x|5" Line
    ∷ refuses "2100-01-01T00:00:00.000|9|5" Line
    ∷ refuses "2100-01-01T00:00:00.000Z|9|5" Stamp
    ∷ refuses "1969-12-31T23:59:59.999Z|0|-1" Stamp
    ∷ refuses "|9|5." Line
    ∷ refuses "|9|99999999999" Line
    ∷ refuses "|9|-0" Item
    ∷ refuses "|2|FAULT:16777216" Item ∷ [])
unfolding opened
lines-orders = (refl, refl)

-- 2 by the head before 20 and 21
pub lines-head :
    StoresGive plain_model plain_names (record { observations = []; assets = no_assets })
    (refuses "|0|5" Store ∷ refuses "" Store ∷ refuses "2100-01-01T00:00:00.000Z|0|5" Store ∷ [])
unfolding opened
lines-head = refl

-- 1 before 2, 20 and 21
pub lines-model :
    BothGive [] plain_names (record { observations = []; assets = [] }) (tool_state 1)
    (refuses "|0|5" Model ∷ refuses "" Model ∷ refuses "2100-01-01T00:00:00.000Z|0|5" Model ∷ [])
unfolding opened
lines-model = (refl, refl)

-- ---- lines written

-- into so many sevens: the line and the sevens behind it
abbrev Writes : List ℕ → List ℕ → ℕ → ℕ → Value → ℕ → String → ℕ → Type 0
Writes model names item time v room text behind =
    write_line model names item time v (replicate room 7)
    ≡ record { answer = Ok (length (bytes text)); reply = bytes text ++ replicate behind 7 }

-- as they stood
abbrev Keeps : List ℕ → List ℕ → ℕ → ℕ → Value → ℕ → Refusal → Type 0
Keeps model names item time v room r =
    write_line model names item time v (replicate room 7) ≡ refuse r (replicate room 7)

-- each kind; room for exactly its bytes, for more, and for one fewer; time 0 has no stamp, 2099's last millisecond has
pub lines-written :
    Writes bench_model bench_names 1 0 (Sample (pos 5500)) 6 "|1|5.5" 0
    × Writes bench_model bench_names 1 0 (Sample (pos 5500)) 9 "|1|5.5" 3
    × Keeps bench_model bench_names 1 0 (Sample (pos 5500)) 5 Space
    × Keeps bench_model bench_names 1 0 (Sample (pos 5500)) 0 Space
    × Writes bench_model bench_names 1 1 (Sample (negsuc 0)) 33 "1970-01-01T00:00:00.001Z|1|-0.001" 0
    × Keeps bench_model bench_names 1 1 (Sample (negsuc 0)) 32 Space
    × Writes bench_model bench_names 0 4102444799999 (Event 4294967295) 37 "2099-12-31T23:59:59.999Z|0|4294967295" 0
    × Writes bench_model bench_names 0 0 Unavailable 14 "|0|UNAVAILABLE" 0
    × Writes alarm_model alarm_names 0 0 (Condition Normal 0) 11 "|0|NORMAL:0" 0
    × Writes alarm_model alarm_names 0 0 (Condition Warning 16777215) 20 "|0|WARNING:16777215" 1
    × Writes alarm_model alarm_names 0 951782400000 (Condition Fault 7) 34 "2000-02-29T00:00:00.000Z|0|FAULT:7" 0
unfolding opened
lines-written = (refl, refl, refl, refl, refl, refl, refl, refl, refl, refl, refl)

-- 1, 4, 5, 21, 15 in this order; category 3 takes no value
pub lines-unwritten :
    Keeps [] bench_names 9 4102444800000 (Event 5) 0 Model
    × Keeps bench_model bench_names 2 4102444800000 (Event 5) 0 Item
    × Keeps bench_model bench_names 1 4102444800000 (Event 5) 0 Kind
    × Keeps alarm_model alarm_names 0 4102444800000 (Condition Fault 16777216) 0 Kind
    × Keeps tool_model tool_names 1 0 Unavailable 64 Kind
    × Keeps tool_model tool_names 1 0 (Event 0) 64 Kind
    × Keeps bench_model bench_names 0 4102444800000 (Event 5) 0 Stamp
    × Keeps bench_model bench_names 0 4102444800000 (Event 5) 64 Stamp
    × Keeps bench_model bench_names 0 4102444799999 (Event 5) 27 Space
unfolding opened
lines-unwritten = (refl, refl, refl, refl, refl, refl, refl, refl, refl)
