-- Models, stores and states that the worked examples share, and lists of calls with what each is to give.
use Prim.Native.Nat.{ℕ, zero, suc, ◌+◌, ◌*◌}
use Prim.Native.String.{String}
use mathlib.Core.Path.{◌≡◌}
use mathlib.Core.List.{List, [], ◌∷◌, ◌++◌, map}
use lib.IntN.{pos, negsuc}
use lib.ListN.{length, get_or, replicate}
use Rattle.spec.specs.Bytes.{bytes, pad}
use Rattle.history.specs.Reference.{State, Observation}
use Rattle.history.specs.History.{Call, Output, Stores, Start, stores_run, reference_run, stores_outputs}
use Rattle.history.specs.History.{reference_outputs}
use Rattle.history.specs.History.Output.{started, batched, stored, replied}
use Rattle.cases.specs.Bench.{bench_model, bench_names}
use Rattle.spec.proofs.Examples.{cells_of, w}
use Rattle.spec.specs.declared.Value.TheVariants.{Unavailable, Sample}
use Rattle.spec.specs.declared.Refusal.{Refusal}
use Rattle.spec.specs.declared.Record.{Record}
use Rattle.std.specs.Prelude.{Ok, Err}
use Rattle.spec.specs.Answers.{Answer}

infix 80 ◌gives◌
-- ---- calls and what they are to give

pub data Step : Type 0 where
  ◌gives◌ : Call → Output → Step

abbrev pub call_of : Step → Call
call_of (c gives o) = c

abbrev pub output_of : Step → List Output
output_of (c gives o) = o ∷ []

-- a request whose reply fills the buffer; the first word is the answer's k
abbrev pub shows : String → List ℕ → Step
shows text words = Call.request (bytes text) (replicate (length words) 7) gives replied (Ok (get_or words 0 0)) words

-- a request that is refused and leaves so many words as they are
abbrev pub refuses_in : ℕ → String → Refusal → Step
refuses_in words text r = Call.request (bytes text) (replicate words 7) gives replied (Err r) (replicate words 7)

abbrev pub refuses : String → Refusal → Step
refuses = refuses_in 64

-- an asset that is stored
abbrev pub stores : List ℕ → List ℕ → Answer → Step
stores id content r = Call.store_asset id content 10 gives stored r

-- a record: item, time and the value's word
abbrev pub at : ℕ → ℕ → ℕ → Record
at item time value = record { item = item; time = time; value = value }

-- a batch at host time 77 into a buffer of sevens
abbrev pub gives-in : List Record → ℕ → Answer → List ℕ → Step
gives-in rs words x ws = Call.batch rs 77 (replicate words 7) gives batched x ws

-- the stores' calls give so, each over the stores that the one before left
abbrev pub StoresGive : List ℕ → List ℕ → Stores → List Step → Type 0
StoresGive model names s ss = stores_run model names s (map call_of ss) ≡ map output_of ss

-- both layers give so
abbrev pub BothGive : List ℕ → List ℕ → Stores → State → List Step → Type 0
BothGive model names s p ss =
    StoresGive model names s ss × (reference_run model names p (map call_of ss) ≡ map output_of ss)

-- an item Unavailable since a start at time 1000
abbrev pub blank_at : ℕ → ℕ → Observation
blank_at number item = record { number = number; item = item; time = 1000; value = Unavailable }

-- both layers give so behind a start that is accepted, the reference model's from the state p
abbrev pub StartGives : Start → State → List Step → Type 0
StartGives a p ss =
    (stores_outputs a (map call_of ss) ≡ (started (Ok 0) ∷ []) ∷ map output_of ss)
    × (reference_outputs a p (map call_of ss) ≡ (started (Ok 0) ∷ []) ∷ map output_of ss)

-- ---- tables

-- a table's columns whose items have these words in their first entry and nothing behind it
abbrev pub firsts : List ℕ → List ℕ
firsts [] = []
firsts (x ∷ xs) = (x ∷ replicate 7 0) ++ firsts xs

-- one item's table: eight numbers, times and packed words; zeros behind those given
abbrev pub table_of : List ℕ → List ℕ → List ℕ → List ℕ
table_of ns ts ws = pad 8 ns ++ (pad 8 ts ++ pad 8 ws)

-- ---- one sample item; a second component without items, so that //Spare selects none and a reply has four words

abbrev pub plain_model : List ℕ
plain_model = 2 ∷ 1 ∷ 0 ∷ 1 ∷ 2 ∷ []

abbrev pub plain_names : List ℕ
plain_names = cells_of (bytes "Device" ∷ bytes "Spare" ∷ bytes "POSITION" ∷ [])

-- A 1, nothing stored
abbrev pub no_assets : List ℕ
no_assets = 1 ∷ 0 ∷ replicate 544 0

-- numbers 1 to l, each item 0 Unavailable at time 0
abbrev pub plain_store : ℕ → ℕ → List ℕ
plain_store N l = N ∷ 1 ∷ 1 ∷ l ∷ replicate (2 * N + 48) 0

abbrev pub plain_run : ℕ → ℕ → List Observation
plain_run zero n = []
plain_run (suc k) n = record { number = n; item = 0; time = 0; value = Unavailable } ∷ plain_run k (suc n)

abbrev pub PlainGives : ℕ → ℕ → List Step → Type 0
PlainGives N l =
    BothGive plain_model plain_names (record { observations = plain_store N l; assets = no_assets })
    (record { N = N; A = 1; B = 1; H = plain_run l 1; T = [] })

-- ---- one component, a sample item and an asset change item; N 4, A 2, into stores that were full of something else

abbrev pub tool_model : List ℕ
tool_model = 1 ∷ 2 ∷ 0 ∷ 1 ∷ 196610 ∷ []

abbrev pub tool_names : List ℕ
tool_names = cells_of (bytes "Device" ∷ bytes "POSITION" ∷ bytes "ASSET_CHANGED" ∷ [])

abbrev pub tool_start : ℕ → Start
tool_start B =
    record {
      model = tool_model;
      names = tool_names;
      observations = replicate 108 99;
      assets = replicate 1090 99;
      N = 4;
      A = 2;
      B = B;
      host = 1000;
    }

abbrev pub tool_state : ℕ → State
tool_state B =
    record {
      N = 4;
      A = 2;
      B = B;
      H = blank_at B 0 ∷ blank_at (suc B) 1 ∷ [];
      T = [];
    }

abbrev pub ToolsGive : ℕ → List Step → Type 0
ToolsGive B = StartGives (tool_start B) (tool_state B)

-- ---- one condition item

abbrev pub alarm_model : List ℕ
alarm_model = 1 ∷ 1 ∷ 0 ∷ 131073 ∷ []

abbrev pub alarm_names : List ℕ
alarm_names = cells_of (bytes "A" ∷ bytes "B" ∷ [])

-- Warning of the codes 1 to 8, numbered 2 to 9, at times 20 to 90
abbrev pub eight_warnings : List ℕ
eight_warnings =
    table_of (2 ∷ 3 ∷ 4 ∷ 5 ∷ 6 ∷ 7 ∷ 8 ∷ 9 ∷ []) (20 ∷ 30 ∷ 40 ∷ 50 ∷ 60 ∷ 70 ∷ 80 ∷ 90 ∷ [])
    (w 1 ∷ w 2 ∷ w 3 ∷ w 4 ∷ w 5 ∷ w 6 ∷ w 7 ∷ w 8 ∷ [])

-- ---- the bench case behind its observes: N 3, first 2, last 4

-- the store with these packed words for the numbers 2, 3 and 4, which are at the ring's places 1, 2 and 0
abbrev pub bench_with : ℕ → ℕ → ℕ → List ℕ
bench_with x y z =
    3 ∷ 2 ∷ 1 ∷ 4
    ∷ 1030 ∷ 1000 ∷ 1010
    ∷ z ∷ x ∷ y
    ∷ (firsts (1 ∷ 4 ∷ 1000 ∷ 1030 ∷ 0 ∷ 1108101562367 ∷ []) ++ firsts (1 ∷ 0 ∷ 1000 ∷ 0 ∷ 0 ∷ 0 ∷ []))

abbrev pub bench_store : List ℕ
bench_store = bench_with 1099511627776 1103806600072 1108101562367

abbrev pub BenchGives : List Step → Type 0
BenchGives =
    BothGive bench_model bench_names (record { observations = bench_store; assets = no_assets })
    (record {
      N = 3;
      A = 1;
      B = 1;
      H = blank_at 1 0
          ∷ blank_at 2 1
          ∷ record { number = 3; item = 1; time = 1010; value = Sample (pos 5000) }
          ∷ record { number = 4; item = 1; time = 1030; value = Sample (negsuc 0) }
          ∷ [];
      T = [];
    })
