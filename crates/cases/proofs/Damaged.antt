-- What start leaves in the stores; and stores that start did not make: what is read of them is tested, refusal 2,
-- the rest is taken as it stands.
use Prim.Native.Nat.{ℕ}
use mathlib.Core.Path.{◌≡◌, refl}
use mathlib.Core.List.{List, [], ◌∷◌, ◌++◌}
use lib.IntN.{pos, negsuc}
use lib.ListN.{replicate}
use Rattle.spec.specs.Bytes.{bytes, pad}
use Rattle.history.specs.Calls
use Rattle.history.specs.History.{Call, stores_start}
use Rattle.history.specs.History.Output.{observed, returned}
use Rattle.cases.specs.Bench.{bench_model, bench_names}
use Rattle.spec.specs.declared.Value.TheVariants.{Unavailable, Sample}
use Rattle.std.specs.Prelude.{Ok, Err}
use Rattle.spec.specs.declared.Noted.TheVariants.{Recorded, Same}
use Rattle.spec.specs.declared.Refusal.TheVariants.{Store, AssetNotFound}
use Rattle.cases.proofs.Opened.{opened}
use Rattle.cases.proofs.Fixtures.{Step, shows, refuses, stores, StoresGive, firsts, no_assets, tool_model}
use Rattle.cases.proofs.Fixtures.{tool_names, tool_start, bench_with, bench_store}
use Rattle.cases.proofs.Fixtures.Step.{◌gives◌}

-- ---- what start leaves, whatever stood in the stores

-- N 4 is above m 2: the ring's unused words are zero, and so is the checkpoint
pub started-observations :
    (stores_start (tool_start 1)).observations
    ≡ 4 ∷ 2 ∷ 1 ∷ 2
    ∷ 1000 ∷ 1000 ∷ 0 ∷ 0
    ∷ 0 ∷ 1099511627776 ∷ 0 ∷ 0
    ∷ (firsts (1 ∷ 2 ∷ 1000 ∷ 1000 ∷ 0 ∷ 1099511627776 ∷ []) ++ replicate 48 0)
unfolding opened
started-observations = refl

pub started-assets : (stores_start (tool_start 1)).assets ≡ 2 ∷ 0 ∷ replicate 1088 0
unfolding opened
started-assets = refl

-- N 1 is below m 2: number 5 of item 0 is overwritten at once and stands in the checkpoint
pub started_below :
    Calls.start bench_model bench_names (replicate 102 99) (replicate 546 99) 1 1 5 1000
    ≡ record {
      answer = Ok 0;
      observations = 1 ∷ 2 ∷ 5 ∷ 6
          ∷ 1000 ∷ 1099511627776
          ∷ firsts (5 ∷ 6 ∷ 1000 ∷ 1000 ∷ 0 ∷ 1099511627776 ∷ 5 ∷ 0 ∷ 1000 ∷ 0 ∷ 0 ∷ 0 ∷ []);
      assets = 1 ∷ 0 ∷ replicate 544 0;
    }
unfolding opened
started_below = refl

-- ---- ring words: m is 2, so that 2 × 2^40 is the first word of an item that isn't there

abbrev Ring : ℕ → ℕ → ℕ → List Step → Type 0
Ring x y z = StoresGive bench_model bench_names (record { observations = bench_with x y z; assets = no_assets })

-- the highest word of item m - 1 at number 3
pub ring-word-right :
    Ring 1099511627776 2199023255551 1108101562367
    (shows "/sample?from=3&count=1" (1 ∷ 2 ∷ 4 ∷ 4 ∷ 3 ∷ 1010 ∷ 2199023255551 ∷ [])
    ∷ shows "/current?at=3&path=//Axes" (1 ∷ 2 ∷ 4 ∷ 5 ∷ 3 ∷ 1010 ∷ 2199023255551 ∷ []) ∷ [])
unfolding opened
ring-word-right = refl

-- a word of item m there: 2 where number 3 is considered, selected or not; not for the numbers beside it, and not for
-- current without at
pub ring-word-wrong :
    Ring 1099511627776 2199023255552 1108101562367
    (refuses "/sample" Store
    ∷ refuses "/sample?from=3&count=1" Store
    ∷ refuses "/sample?from=3&path=//Device//DataItem[@type=\"AVAILABILITY\"]" Store
    ∷ refuses "/sample?count=2" Store
    ∷ shows "/sample?count=1" (1 ∷ 2 ∷ 4 ∷ 3 ∷ 2 ∷ 1000 ∷ 1099511627776 ∷ [])
    ∷ shows "/sample?from=4" (1 ∷ 2 ∷ 4 ∷ 5 ∷ 4 ∷ 1030 ∷ 1108101562367 ∷ [])
    ∷ shows "/sample?from=5" (0 ∷ 2 ∷ 4 ∷ 5 ∷ [])
    ∷ shows "/current?at=2" (2 ∷ 2 ∷ 4 ∷ 5 ∷ 1 ∷ 2 ∷ 1000 ∷ 0 ∷ 1000 ∷ 1099511627776 ∷ [])
    ∷ refuses "/current?at=3" Store
    ∷ refuses "/current?at=4&path=//Device//DataItem[@type=\"AVAILABILITY\"]" Store
    ∷ shows "/current" (2 ∷ 2 ∷ 4 ∷ 5 ∷ 1 ∷ 4 ∷ 1000 ∷ 0 ∷ 1030 ∷ 1108101562367 ∷ []) ∷ [])
unfolding opened
ring-word-wrong = refl

-- a word of item 2^24 - 1 in an item's 24 bits
pub ring-word-highest : Ring 1099511627776 1103806600072 18446744073709551615 (refuses "/sample?from=4" Store ∷ [])
unfolding opened
ring-word-highest = refl

-- ---- the entry about to be overwritten: number 5 takes the place of number 2

-- of item m: 2, but Same adds nothing and reads no entry
pub overwritten-wrong :
    Ring 2199023255552 1103806600072 1108101562367
    (Call.observe 1 10 10 (Sample (pos 7)) gives observed (Err Store)
    ∷ Call.observe 1 10 10 (Sample (negsuc 0)) gives observed (Ok Same)
    ∷ shows "/sample?from=5" (0 ∷ 2 ∷ 4 ∷ 5 ∷ []) ∷ [])
unfolding opened
overwritten-wrong = refl

-- of item m - 1: it goes to that item's checkpoint as it stands
pub overwritten-right :
    Calls.observe bench_model bench_names (bench_with 2199023255551 1103806600072 1108101562367) 1 10 10 (Sample (pos 7))
    ≡ record {
      answer = Ok (Recorded 5);
      observations = 3 ∷ 2 ∷ 1 ∷ 5
          ∷ 1030 ∷ 10 ∷ 1010
          ∷ 1108101562367 ∷ 1103806595079 ∷ 1103806600072
          ∷ firsts (1 ∷ 5 ∷ 1000 ∷ 10 ∷ 0 ∷ 1103806595079 ∷ 1 ∷ 2 ∷ 1000 ∷ 1000 ∷ 0 ∷ 2199023255551 ∷ []);
    }
unfolding opened
overwritten-right = refl

-- the words of the numbers that stay are not read
pub overwritten-beside :
    Ring 1099511627776 2199023255552 2199023255552
    (Call.observe 1 10 10 (Sample (pos 7)) gives observed (Ok (Recorded 5))
    ∷ Call.observe 1 10 10 (Sample (pos 8)) gives observed (Err Store) ∷ [])
unfolding opened
overwritten-beside = refl

-- N 4 with two numbers held, words of item 99 in the places of numbers 3 and 4: nothing is there to be overwritten
pub unused-places :
    StoresGive tool_model tool_names
    (record {
      observations = 4 ∷ 2 ∷ 1 ∷ 2
          ∷ 0 ∷ 0 ∷ 0 ∷ 0
          ∷ 0 ∷ 1099511627776 ∷ 108851651149824 ∷ 108851651149824
          ∷ (firsts (1 ∷ 2 ∷ 0 ∷ 0 ∷ 0 ∷ 1099511627776 ∷ []) ++ replicate 48 0);
      assets = no_assets;
    })
    (shows "/sample" (2 ∷ 1 ∷ 2 ∷ 3 ∷ 1 ∷ 2 ∷ 0 ∷ 0 ∷ 0 ∷ 1099511627776 ∷ [])
    ∷ Call.observe 0 10 10 (Sample (pos 7)) gives observed (Ok (Recorded 3))
    ∷ stores (bytes "a") (5 ∷ []) (Ok 0)
    ∷ Call.observe 0 10 10 (Sample (pos 8)) gives observed (Ok (Recorded 5))
    ∷ shows "/sample?from=5" (1 ∷ 2 ∷ 5 ∷ 6 ∷ 5 ∷ 10 ∷ 4294967304 ∷ []) ∷ [])
unfolding opened
unused-places = refl

-- store-asset's event overwrites too; with 2 nothing is stored. A model without an asset change item adds no event
pub overwritten-by-event :
    StoresGive tool_model tool_names
    (record { observations = 1 ∷ 2 ∷ 1 ∷ 2 ∷ 0 ∷ 2199023255552 ∷ replicate 96 0; assets = no_assets })
    (stores (bytes "a") (5 ∷ []) (Err Store)
    ∷ Call.body (bytes "a") gives returned [] ∷ [])
    × Ring 2199023255552 1103806600072 1108101562367
    (stores (bytes "a") (5 ∷ []) (Ok 0)
    ∷ Call.body (bytes "a") gives returned (5 ∷ []) ∷ [])
unfolding opened
overwritten-by-event = (refl, refl)

-- ---- checkpoint and latest words are not tested, but for a condition item's form (Conditions)

-- the bench case with other words for item 0: latest number, time, packed word; checkpoint number, time, packed word
abbrev rows_with : ℕ → ℕ → ℕ → ℕ → ℕ → ℕ → List ℕ
rows_with a b c x y z =
    3 ∷ 2 ∷ 1 ∷ 4
    ∷ 1030 ∷ 1000 ∷ 1010
    ∷ 1108101562367 ∷ 1099511627776 ∷ 1103806600072
    ∷ firsts (a ∷ 4 ∷ b ∷ 1030 ∷ c ∷ 1108101562367 ∷ x ∷ 0 ∷ y ∷ 0 ∷ z ∷ 0 ∷ [])

abbrev RowsGive : List ℕ → List Step → Type 0
RowsGive st = StoresGive bench_model bench_names (record { observations = st; assets = no_assets })

-- numbered above at, even above last, with a word of item 99: as it stands
pub checkpoint-above :
    RowsGive (rows_with 1 1000 0 9 8 108851651149824)
    (shows "/current?at=2" (2 ∷ 2 ∷ 4 ∷ 5 ∷ 9 ∷ 2 ∷ 8 ∷ 108851651149824 ∷ 1000 ∷ 1099511627776 ∷ []) ∷ [])
unfolding opened
checkpoint-above = refl

-- numbered 0: left out, whatever stands beside it
pub checkpoint-none :
    RowsGive (rows_with 1 1000 0 0 8 108851651149824)
    (shows "/current?at=2" (1 ∷ 2 ∷ 4 ∷ 5 ∷ 2 ∷ 1000 ∷ 1099511627776 ∷ []) ∷ [])
unfolding opened
checkpoint-none = refl

-- current copies the latest words; Same compares the whole latest word: of another item or kind it isn't the value's
pub latest-words :
    RowsGive (rows_with 9 8 108851651149824 1 1000 0)
    (shows "/current" (2 ∷ 2 ∷ 4 ∷ 5 ∷ 9 ∷ 4 ∷ 8 ∷ 108851651149824 ∷ 1030 ∷ 1108101562367 ∷ [])
    ∷ Call.observe 0 10 10 Unavailable gives observed (Ok (Recorded 5)) ∷ [])
    × RowsGive (rows_with 9 8 4294967296 1 1000 0)
    (Call.observe 0 10 10 Unavailable gives observed (Ok (Recorded 5))
    ∷ Call.observe 0 10 10 Unavailable gives observed (Ok Same) ∷ [])
unfolding opened
latest-words = (refl, refl)

-- ---- assets: A 2; both id cells hold a; the bodies' lengths are given in two bytes

abbrev twice : ℕ → ℕ → ℕ → ℕ → ℕ → List ℕ
twice u h l h' l' =
    2 ∷ u
    ∷ (pad 32 (bytes "a")
    ++ (pad 32 (bytes "a")
    ++ (pad 512 (h ∷ l ∷ 5 ∷ 6 ∷ [])
    ++ pad 512 (h' ∷ l' ∷ 7 ∷ 8 ∷ []))))

abbrev AssetsGive : List ℕ → List Step → Type 0
AssetsGive bs = StoresGive bench_model bench_names (record { observations = bench_store; assets = bs })

-- the lower is meant; stored anew, it is removed and the other stays
pub lower-cell :
    AssetsGive (twice 2 0 1 0 2)
    (shows "/asset/a" (1 ∷ 2 ∷ 2 ∷ 0 ∷ 0 ∷ 1 ∷ [])
    ∷ Call.body (bytes "a") gives returned (5 ∷ [])
    ∷ stores (bytes "a") (9 ∷ 9 ∷ 9 ∷ []) (Ok 1)
    ∷ shows "/assets" (2 ∷ 2 ∷ 2 ∷ 0 ∷ 1 ∷ 0 ∷ 3 ∷ 2 ∷ [])
    ∷ Call.body (bytes "a") gives returned (7 ∷ 8 ∷ []) ∷ [])
unfolding opened
lower-cell = refl

-- a stored length of 1 and of 510 is right, of 0, 511 and more is 2, and body's part is empty
pub stored-lengths :
    AssetsGive (twice 1 0 1 0 0)
    (shows "/asset/a" (1 ∷ 1 ∷ 2 ∷ 0 ∷ 0 ∷ 1 ∷ []) ∷ Call.body (bytes "a") gives returned (5 ∷ []) ∷ [])
    × AssetsGive (twice 1 1 254 0 0)
    (shows "/assets" (1 ∷ 1 ∷ 2 ∷ 0 ∷ 0 ∷ 510 ∷ [])
    ∷ Call.body (bytes "a") gives returned (5 ∷ 6 ∷ replicate 508 0) ∷ [])
    × AssetsGive (twice 1 0 0 0 0)
    (refuses "/assets" Store ∷ refuses "/asset/a" Store ∷ Call.body (bytes "a") gives returned [] ∷ [])
    × AssetsGive (twice 1 1 255 0 0)
    (refuses "/assets" Store ∷ refuses "/asset/a" Store ∷ Call.body (bytes "a") gives returned [] ∷ [])
    × AssetsGive (twice 1 255 1 0 0)
    (refuses "/assets" Store ∷ refuses "/asset/a" Store ∷ Call.body (bytes "a") gives returned [] ∷ [])
unfolding opened
stored-lengths = (refl, refl, refl, refl, refl)

-- only the lengths of the cells asked for are read; cells from u on are not; store-asset reads none
pub lengths_read :
    AssetsGive (twice 2 0 1 0 0)
    (refuses "/assets" Store
    ∷ shows "/asset/a" (1 ∷ 2 ∷ 2 ∷ 0 ∷ 0 ∷ 1 ∷ []) ∷ [])
    × AssetsGive (twice 1 0 1 0 0)
    (shows "/assets" (1 ∷ 1 ∷ 2 ∷ 0 ∷ 0 ∷ 1 ∷ []) ∷ [])
    × AssetsGive (twice 0 0 1 0 2)
    (shows "/assets" (0 ∷ 0 ∷ 2 ∷ 0 ∷ [])
    ∷ refuses "/asset/a" AssetNotFound
    ∷ Call.body (bytes "a") gives returned [] ∷ [])
    × AssetsGive (twice 2 0 0 0 0) (stores (bytes "b") (9 ∷ []) (Ok 1) ∷ [])
unfolding opened
lengths_read = (refl, refl, refl, refl)

-- an id is the whole cell: a with a zero behind it is no id, and neither a beginning nor more than the id is found
pub whole-ids :
    AssetsGive (2 ∷ 1 ∷ (pad 64 (bytes "ab") ++ pad 1024 (0 ∷ 1 ∷ 5 ∷ [])))
    (Call.body (97 ∷ 98 ∷ 0 ∷ []) gives returned []
    ∷ Call.body (bytes "a") gives returned []
    ∷ Call.body (bytes "abc") gives returned []
    ∷ Call.body (bytes "ab") gives returned (5 ∷ []) ∷ [])
unfolding opened
whole-ids = refl
