-- Worked batches, in both layers unless 2 is among the answers: the bounds of document 02, Req 01, where two refusals
-- meet, and each way in which a record is answered among others.
use Prim.Native.Nat.{ℕ, ◌+◌}
use mathlib.Core.Path.{refl}
use mathlib.Core.List.{List, [], ◌∷◌}
use lib.ListN.{replicate}
use Rattle.std.specs.Prelude.{Ok, Err}
use Rattle.spec.specs.declared.Refusal.TheVariants.{Model, Store, Space, Batch}
use Rattle.cases.proofs.Opened.{opened}
use Rattle.cases.proofs.Fixtures.{at, gives-in, shows, StoresGive, BothGive, PlainGives, ToolsGive, BenchGives}
use Rattle.cases.proofs.Fixtures.{plain_model, plain_names, no_assets, tool_state}

-- the words of samples, in thousandths
abbrev sample : ℕ → ℕ
sample x = 4294967296 + x

-- ---- bounds

-- 256 records and no more; an answer word for each and no fewer; the empty batch
pub batch-bounds :
    PlainGives 3 1
    (gives-in (replicate 257 (at 0 10 (sample 5))) 257 (Err Batch) (replicate 257 7)
    ∷ gives-in (replicate 256 (at 0 10 (sample 5))) 255 (Err Space) (replicate 255 7)
    ∷ gives-in (replicate 256 (at 0 10 (sample 5))) 256 (Ok 256) (2 ∷ replicate 255 0)
    ∷ gives-in (at 0 10 (sample 6) ∷ at 0 10 (sample 7) ∷ []) 1 (Err Space) (7 ∷ [])
    ∷ gives-in (at 0 10 (sample 6) ∷ at 0 10 (sample 7) ∷ []) 2 (Ok 2) (3 ∷ 4 ∷ [])
    ∷ gives-in (at 0 10 (sample 6) ∷ at 0 10 (sample 7) ∷ []) 4 (Ok 2) (5 ∷ 6 ∷ 7 ∷ 7 ∷ [])
    ∷ gives-in [] 0 (Ok 0) []
    ∷ gives-in [] 2 (Ok 0) (7 ∷ 7 ∷ []) ∷ [])
unfolding opened
batch-bounds = (refl, refl)

-- ---- where two refusals meet

-- 16 before 15
pub batch-orders :
    PlainGives 3 1
    (gives-in (replicate 257 (at 0 10 (sample 5))) 0 (Err Batch) []
    ∷ gives-in (replicate 257 (at 0 10 (sample 5))) 256 (Err Batch) (replicate 256 7) ∷ [])
unfolding opened
batch-orders = (refl, refl)

-- 2 for the head before 16 and 15, and with no record at all
pub batch-head :
    StoresGive plain_model plain_names (record { observations = []; assets = no_assets })
    (gives-in [] 0 (Err Store) []
    ∷ gives-in (at 0 10 (sample 5) ∷ []) 0 (Err Store) []
    ∷ gives-in (replicate 257 (at 0 10 (sample 5))) 0 (Err Store) [] ∷ [])
unfolding opened
batch-head = refl

-- 1 before 2, 16 and 15
pub batch-model :
    BothGive [] plain_names (record { observations = []; assets = [] }) (tool_state 1)
    (gives-in [] 0 (Err Model) []
    ∷ gives-in (at 0 10 (sample 5) ∷ []) 0 (Err Model) []
    ∷ gives-in (replicate 257 (at 0 10 (sample 5))) 0 (Err Model) [] ∷ [])
unfolding opened
batch-model = (refl, refl)

-- ---- records among others

-- a refused record stands in nobody's way: an item that isn't there, a word that no value has, an event for a sample
-- item; a value that stands already, that value again behind another one; time 0 takes the batch's host time
pub batch-records :
    BenchGives
    (gives-in
    (at 1 2000 (sample 5)
    ∷ at 2 2001 (sample 6)
    ∷ at 1 2002 1
    ∷ at 1 2003 8589934599
    ∷ at 1 2004 (sample 5)
    ∷ at 1 0 (sample 6)
    ∷ at 1 2006 (sample 5) ∷ [])
    8 (Ok 7)
    (5 ∷ 9223372036854775812 ∷ 9223372036854775813 ∷ 9223372036854775813 ∷ 0 ∷ 6 ∷ 7 ∷ 7 ∷ [])
    ∷ shows "/sample?from=5"
    (3 ∷ 5 ∷ 7 ∷ 8 ∷ 5 ∷ 6 ∷ 7 ∷ 2000 ∷ 1103806595077 ∷ 77 ∷ 1103806595078 ∷ 2006 ∷ 1103806595077 ∷ []) ∷ [])
unfolding opened
batch-records = (refl, refl)

-- every record refused: the batch is accepted all the same
pub batch-refused :
    BenchGives
    (gives-in (at 9 10 0 ∷ at 18446744073709551615 10 0 ∷ []) 2 (Ok 2)
    (9223372036854775812 ∷ 9223372036854775812 ∷ []) ∷ [])
unfolding opened
batch-refused = (refl, refl)

-- the last number goes to the first record: 6 for the next, Same behind it
pub batch-spent :
    ToolsGive 9223372036854775805
    (gives-in (at 0 10 (sample 5) ∷ at 0 10 (sample 6) ∷ at 0 10 (sample 5) ∷ at 0 10 0 ∷ []) 4 (Ok 4)
    (9223372036854775807 ∷ 9223372036854775814 ∷ 0 ∷ 9223372036854775814 ∷ []) ∷ [])
unfolding opened
batch-spent = (refl, refl)

-- ring size 1: the second record of an item overwrites the first
pub batch-ring-one :
    PlainGives 1 1
    (gives-in (at 0 10 (sample 5) ∷ at 0 11 (sample 6) ∷ []) 2 (Ok 2) (2 ∷ 3 ∷ [])
    ∷ shows "/sample" (1 ∷ 3 ∷ 3 ∷ 4 ∷ 3 ∷ 11 ∷ sample 6 ∷ []) ∷ [])
unfolding opened
batch-ring-one = (refl, refl)

-- ---- a damaged ring

-- N 2 and full; number 2's word has item 1, which the model doesn't have
abbrev wrong_second : List ℕ
wrong_second = 2 ∷ 1 ∷ 1 ∷ 2 ∷ 0 ∷ 0 ∷ 0 ∷ 1099511627776 ∷ replicate 48 0

-- number 3 overwrites number 1, so the first record is added; each that needs number 4 meets the bad entry, which stays
pub batch-entry :
    StoresGive plain_model plain_names (record { observations = wrong_second; assets = no_assets })
    (gives-in (at 0 10 (sample 5) ∷ at 0 11 (sample 6) ∷ at 0 12 (sample 5) ∷ at 1 13 0 ∷ at 0 14 (sample 7) ∷ [])
    5 (Ok 5)
    (3 ∷ 9223372036854775810 ∷ 0 ∷ 9223372036854775812 ∷ 9223372036854775810 ∷ []) ∷ [])
unfolding opened
batch-entry = refl
