-- Each bound of document 01 at the last value that passes and the first that doesn't, of both layers, by computation.
-- The figures are written out here as the document has them, so that they follow no definition.
use Prim.Native.Nat.{ℕ}
use mathlib.Core.Path.{◌≡◌, refl}
use mathlib.Core.List.{List, [], ◌∷◌}
use lib.IntN.{pos}
use lib.ListN.{length, replicate}
use Rattle.spec.specs.Bytes.{bytes}
use Rattle.history.specs.Calls
use Rattle.history.specs.Reference
use Rattle.history.specs.History.{Call}
use Rattle.history.specs.History.Output.{observed, returned}
use Rattle.cases.specs.Bench.{bench_model, bench_names}
use Rattle.spec.specs.declared.Value.TheVariants.{Sample}
use Rattle.std.specs.Prelude.{Ok, Err}
use Rattle.spec.specs.Answers.{Answer}
use Rattle.spec.specs.declared.Noted.TheVariants.{Recorded}
use Rattle.spec.specs.declared.Refusal.TheVariants.{Size, Store, Spent, InvalidRequest, TooMany, Late, Early}
use Rattle.spec.specs.declared.Refusal.TheVariants.{AssetNotFound, Asset, Space}
use Rattle.cases.proofs.Opened.{opened}
use Rattle.cases.proofs.Fixtures.{Step, shows, refuses, refuses_in, stores, StoresGive, PlainGives, ToolsGive}
use Rattle.cases.proofs.Fixtures.{BenchGives, plain_model, plain_names, no_assets, plain_store}
use Rattle.cases.proofs.Fixtures.Step.{◌gives◌}

-- ---- start, refusal 3: N 1..131,072; A 1..128; B 1..2^63 - m; 4 + 2N + 48m words and 2 + 544A bytes

-- both layers' answer to a start with N, A, B into stores of so many words and bytes, whatever stands there
abbrev Starts : List ℕ → List ℕ → Answer → ℕ → ℕ → ℕ → ℕ → ℕ → Type 0
Starts model names r N A B words size =
    ((st bs : List ℕ) → length st ≡ words → length bs ≡ size → (Calls.start model names st bs N A B 0).answer ≡ r)
    × (Reference.begin_answer (Reference.begin model names N A B 0 words size) ≡ r)

abbrev Accepted : ℕ → ℕ → ℕ → ℕ → ℕ → Type 0
Accepted = Starts plain_model plain_names (Ok 0)

abbrev TooLarge : ℕ → ℕ → ℕ → ℕ → ℕ → Type 0
TooLarge = Starts plain_model plain_names (Err Size)

pub ring-sizes :
    Accepted 1 1 1 54 546
    × Accepted 131072 1 1 262196 546
    × TooLarge 0 1 1 52 546
    × TooLarge 131073 1 1 262198 546
unfolding opened
ring-sizes = (
  (λ st bs h k. rw (h, k), refl),
  (λ st bs h k. rw (h, k), refl),
  (λ st bs h k. refl, refl),
  (λ st bs h k. refl, refl),
)

-- 257 is not taken for 1
pub asset-capacities :
    Accepted 1 128 1 54 69634
    × TooLarge 1 0 1 54 2
    × TooLarge 1 129 1 54 70178
    × TooLarge 1 257 1 54 546
unfolding opened
asset-capacities = (
  (λ st bs h k. rw (h, k), refl),
  (λ st bs h k. refl, refl),
  (λ st bs h k. refl, refl),
  (λ st bs h k. refl, refl),
)

-- of one item and of two
pub first-numbers :
    Accepted 1 1 9223372036854775807 54 546
    × TooLarge 1 1 0 54 546
    × TooLarge 1 1 9223372036854775808 54 546
    × Starts bench_model bench_names (Ok 0) 3 1 9223372036854775806 106 546
    × Starts bench_model bench_names (Err Size) 3 1 9223372036854775807 106 546
unfolding opened
first-numbers = (
  (λ st bs h k. rw (h, k), refl),
  (λ st bs h k. refl, refl),
  (λ st bs h k. refl, refl),
  (λ st bs h k. rw (h, k), refl),
  (λ st bs h k. refl, refl),
)

pub store-lengths :
    TooLarge 1 1 1 53 546
    × TooLarge 1 1 1 55 546
    × TooLarge 1 1 1 54 545
    × TooLarge 1 1 1 54 547
unfolding opened
store-lengths = (
  (λ st bs h k. rw h, refl),
  (λ st bs h k. rw h, refl),
  (λ st bs h k. rw (h, k), refl),
  (λ st bs h k. rw (h, k), refl),
)

-- ---- heads, refusal 2

-- so is answered over an observation store with this head and so many words behind it, whatever they are
abbrev Heads : Step → ℕ → ℕ → ℕ → ℕ → ℕ → Type 0
Heads s N m B l words =
    (rest : List ℕ) → length rest ≡ words
    → StoresGive plain_model plain_names (record { observations = N ∷ m ∷ B ∷ l ∷ rest; assets = no_assets }) (s ∷ [])

abbrev Fine : ℕ → ℕ → ℕ → Step
Fine first last next = shows "/current?path=//Spare" (0 ∷ first ∷ last ∷ next ∷ [])

abbrev Wrong : Step
Wrong = refuses "/current?path=//Spare" Store

-- N; the model's m; B at least 1 and B + m - 1 at most last, over the integers; last at most 2^63 - 1; the length
pub heads :
    Heads (Fine 1 1 2) 131072 1 1 1 262192
    × Heads (Fine 9223372036854775807 9223372036854775807 9223372036854775808) 1 1 1 9223372036854775807 50
    × Heads Wrong 0 1 1 1 48
    × Heads Wrong 131073 1 1 1 262194
    × Heads Wrong 1 2 1 2 98
    × Heads Wrong 1 1 0 1 50
    × Heads Wrong 1 1 2 1 50
    × Heads Wrong 1 1 18446744073709551615 1 50
    × Heads Wrong 1 1 1 9223372036854775808 50
    × Heads Wrong 1 1 1 1 49
    × Heads Wrong 1 1 1 1 51
unfolding opened
heads = (
  λ rest h. rw h,
  λ rest h. rw h,
  λ rest h. refl,
  λ rest h. refl,
  λ rest h. refl,
  λ rest h. refl,
  λ rest h. refl,
  λ rest h. refl,
  λ rest h. refl,
  λ rest h. rw h,
  λ rest h. rw h,
)

-- the same over an asset store with A and u
abbrev AssetHeads : Step → ℕ → ℕ → ℕ → Type 0
AssetHeads s A u size =
    (rest : List ℕ) → length rest ≡ size
    → StoresGive plain_model plain_names (record { observations = plain_store 1 1; assets = A ∷ u ∷ rest }) (s ∷ [])

pub asset-heads :
    AssetHeads (Fine 1 1 2) 128 128 69632
    × AssetHeads (Fine 1 1 2) 1 0 544
    × AssetHeads Wrong 0 0 0
    × AssetHeads Wrong 129 0 70176
    × AssetHeads Wrong 1 2 544
    × AssetHeads Wrong 1 0 543
    × AssetHeads Wrong 1 0 545
unfolding opened
asset-heads = (
  λ rest h. rw h,
  λ rest h. rw h,
  λ rest h. refl,
  λ rest h. refl,
  λ rest h. refl,
  λ rest h. rw h,
  λ rest h. rw h,
)

-- ---- sample: a count that isn't given is 100; one that is given is at most N, refusal 10

-- 99, 100 and 101 numbers held: next is 100, 101, and 101 again
pub default-count :
    PlainGives 101 99 (shows "/sample?path=//Spare" (0 ∷ 1 ∷ 99 ∷ 100 ∷ []) ∷ [])
    × PlainGives 101 100 (shows "/sample?path=//Spare" (0 ∷ 1 ∷ 100 ∷ 101 ∷ []) ∷ [])
    × PlainGives 101 101 (shows "/sample?path=//Spare" (0 ∷ 1 ∷ 101 ∷ 101 ∷ []) ∷ [])
unfolding opened
default-count = ((refl, refl), (refl, refl), (refl, refl))

-- 100 of 101 rows need 304 words
pub default-rows :
    PlainGives 101 101 (refuses_in 303 "/sample" Space ∷ [])
    × ((Calls.request plain_model plain_names (plain_store 101 101) no_assets (bytes "/sample") (replicate 304 7)).answer
    ≡ Ok 100)
unfolding opened
default-rows = ((refl, refl), refl)

-- N is 3; a count that isn't given is 100 there too
pub given-counts :
    BenchGives
    (shows "/sample?path=//Device//DataItem[@type=\"AVAILABILITY\"]&count=3" (0 ∷ 2 ∷ 4 ∷ 5 ∷ [])
    ∷ shows "/sample?path=//Device//DataItem[@type=\"AVAILABILITY\"]&count=1" (0 ∷ 2 ∷ 4 ∷ 3 ∷ [])
    ∷ shows "/sample?path=//Device//DataItem[@type=\"AVAILABILITY\"]" (0 ∷ 2 ∷ 4 ∷ 5 ∷ [])
    ∷ refuses "/sample?count=4" TooMany
    ∷ refuses "/sample?count=0" InvalidRequest ∷ [])
unfolding opened
given-counts = (refl, refl)

-- ---- from: first to last + 1; at: first to last; below 17, above 18 (document 02, Req 04). First is 2, last is 4

-- from 0 is first
pub from-bounds :
    BenchGives
    (shows "/sample?from=0&count=1" (1 ∷ 2 ∷ 4 ∷ 3 ∷ 2 ∷ 1000 ∷ 1099511627776 ∷ [])
    ∷ refuses "/sample?from=1" Late
    ∷ shows "/sample?from=2&count=1" (1 ∷ 2 ∷ 4 ∷ 3 ∷ 2 ∷ 1000 ∷ 1099511627776 ∷ [])
    ∷ shows "/sample?from=4" (1 ∷ 2 ∷ 4 ∷ 5 ∷ 4 ∷ 1030 ∷ 1108101562367 ∷ [])
    ∷ shows "/sample?from=5" (0 ∷ 2 ∷ 4 ∷ 5 ∷ [])
    ∷ refuses "/sample?from=6" Early
    ∷ refuses "/sample?from=9223372036854775807" Early ∷ [])
unfolding opened
from-bounds = (refl, refl)

-- at 0 is a number below first
pub at_bounds :
    BenchGives
    (refuses "/current?at=0" Late
    ∷ refuses "/current?at=1" Late
    ∷ shows "/current?at=2" (2 ∷ 2 ∷ 4 ∷ 5 ∷ 1 ∷ 2 ∷ 1000 ∷ 0 ∷ 1000 ∷ 1099511627776 ∷ [])
    ∷ shows "/current?at=4" (2 ∷ 2 ∷ 4 ∷ 5 ∷ 1 ∷ 4 ∷ 1000 ∷ 0 ∷ 1030 ∷ 1108101562367 ∷ [])
    ∷ refuses "/current?at=5" Early
    ∷ refuses "/current?at=6" Early
    ∷ refuses "/current?at=9223372036854775807" Early ∷ [])
unfolding opened
at_bounds = (refl, refl)

-- nothing is overwritten yet, so B is first: 1, and 5
pub base-bounds :
    ToolsGive 1
    (shows "/sample?from=0&count=1" (1 ∷ 1 ∷ 2 ∷ 2 ∷ 1 ∷ 1000 ∷ 0 ∷ [])
    ∷ shows "/sample?from=1&count=1" (1 ∷ 1 ∷ 2 ∷ 2 ∷ 1 ∷ 1000 ∷ 0 ∷ [])
    ∷ shows "/sample?from=3" (0 ∷ 1 ∷ 2 ∷ 3 ∷ [])
    ∷ refuses "/sample?from=4" Early
    ∷ refuses "/current?at=0" Late
    ∷ shows "/current?at=1" (1 ∷ 1 ∷ 2 ∷ 3 ∷ 1 ∷ 1000 ∷ 0 ∷ [])
    ∷ refuses "/current?at=3" Early ∷ [])
    × ToolsGive 5
    (shows "/sample?from=0&count=1" (1 ∷ 5 ∷ 6 ∷ 6 ∷ 5 ∷ 1000 ∷ 0 ∷ [])
    ∷ refuses "/sample?from=1" Late
    ∷ refuses "/sample?from=4" Late
    ∷ shows "/sample?from=5&count=1" (1 ∷ 5 ∷ 6 ∷ 6 ∷ 5 ∷ 1000 ∷ 0 ∷ [])
    ∷ shows "/sample?from=7" (0 ∷ 5 ∷ 6 ∷ 7 ∷ [])
    ∷ refuses "/sample?from=8" Early
    ∷ refuses "/current?at=4" Late
    ∷ shows "/current?at=5" (1 ∷ 5 ∷ 6 ∷ 7 ∷ 5 ∷ 1000 ∷ 0 ∷ [])
    ∷ refuses "/current?at=7" Early ∷ [])
unfolding opened
base-bounds = ((refl, refl), (refl, refl))

-- N 1, last 5: first is 5 too
pub ring-of-one-bounds :
    PlainGives 1 5
    (refuses "/sample?from=4" Late
    ∷ shows "/sample?from=5" (1 ∷ 5 ∷ 5 ∷ 6 ∷ 5 ∷ 0 ∷ 0 ∷ [])
    ∷ shows "/sample?from=6" (0 ∷ 5 ∷ 5 ∷ 6 ∷ [])
    ∷ refuses "/sample?from=7" Early
    ∷ refuses "/current?at=4" Late
    ∷ shows "/current?at=5" (1 ∷ 5 ∷ 5 ∷ 6 ∷ 5 ∷ 0 ∷ 0 ∷ [])
    ∷ refuses "/current?at=6" Early ∷ [])
unfolding opened
ring-of-one-bounds = (refl, refl)

-- ---- the reply's space, refusal 15: 4 + 3k words, of assets 4 + 2k; a word behind them stays

pub reply-space :
    BenchGives
    (refuses_in 9 "/current" Space
    ∷ shows "/current" (2 ∷ 2 ∷ 4 ∷ 5 ∷ 1 ∷ 4 ∷ 1000 ∷ 0 ∷ 1030 ∷ 1108101562367 ∷ [])
    ∷ shows "/current" (2 ∷ 2 ∷ 4 ∷ 5 ∷ 1 ∷ 4 ∷ 1000 ∷ 0 ∷ 1030 ∷ 1108101562367 ∷ 7 ∷ [])
    ∷ refuses_in 3 "/assets" Space
    ∷ shows "/assets" (0 ∷ 0 ∷ 1 ∷ 0 ∷ []) ∷ [])
    × ToolsGive 1
    (stores (bytes "a") (5 ∷ []) (Ok 0)
    ∷ refuses_in 5 "/assets" Space
    ∷ shows "/assets" (1 ∷ 1 ∷ 2 ∷ 0 ∷ 0 ∷ 1 ∷ []) ∷ [])
unfolding opened
reply-space = ((refl, refl), (refl, refl))

-- ---- ids of 1 to 32 bytes, bodies of 1 to 510: refusal 14

pub id-lengths :
    ToolsGive 1
    (stores [] (5 ∷ []) (Err Asset)
    ∷ stores (replicate 33 97) (5 ∷ []) (Err Asset)
    ∷ stores (97 ∷ []) (5 ∷ []) (Ok 0)
    ∷ stores (replicate 32 97) (5 ∷ []) (Ok 1) ∷ [])
unfolding opened
id-lengths = (refl, refl)

-- '!' and '~' are an id's; a space, DEL, ';', '/' and '?' are not
pub id-bytes :
    ToolsGive 1
    (stores (33 ∷ 126 ∷ []) (5 ∷ []) (Ok 0)
    ∷ stores (32 ∷ []) (5 ∷ []) (Err Asset)
    ∷ stores (127 ∷ []) (5 ∷ []) (Err Asset)
    ∷ stores (59 ∷ []) (5 ∷ []) (Err Asset)
    ∷ stores (47 ∷ []) (5 ∷ []) (Err Asset)
    ∷ stores (63 ∷ []) (5 ∷ []) (Err Asset) ∷ [])
unfolding opened
id-bytes = (refl, refl)

-- the longest body under the longest id comes back whole; an id of 33 bytes may be asked for and isn't stored
pub body-lengths :
    ToolsGive 1
    (stores (97 ∷ []) [] (Err Asset)
    ∷ stores (97 ∷ []) (replicate 511 5) (Err Asset)
    ∷ stores (replicate 32 97) (replicate 510 5) (Ok 0)
    ∷ Call.body (replicate 32 97) gives returned (replicate 510 5)
    ∷ Call.body (replicate 33 97) gives returned []
    ∷ shows "/asset/aaaaaaaaaaaaaaaaaaaaaaaaaaaaaaaa" (1 ∷ 1 ∷ 2 ∷ 0 ∷ 0 ∷ 510 ∷ [])
    ∷ refuses "/asset/aaaaaaaaaaaaaaaaaaaaaaaaaaaaaaaaa" AssetNotFound ∷ [])
unfolding opened
body-lengths = (refl, refl)

-- ---- A assets are stored: a new id then takes the oldest's room, one that is there its own

pub full-store :
    ToolsGive 1
    (stores (bytes "a") (1 ∷ []) (Ok 0)
    ∷ stores (bytes "b") (2 ∷ 2 ∷ []) (Ok 1)
    ∷ stores (bytes "c") (3 ∷ 3 ∷ 3 ∷ []) (Ok 1)
    ∷ shows "/assets" (2 ∷ 2 ∷ 2 ∷ 0 ∷ 1 ∷ 0 ∷ 3 ∷ 2 ∷ [])
    ∷ refuses "/asset/a" AssetNotFound
    ∷ Call.body (bytes "a") gives returned []
    ∷ stores (bytes "b") (4 ∷ []) (Ok 1)
    ∷ shows "/asset/b;c" (2 ∷ 2 ∷ 2 ∷ 0 ∷ 1 ∷ 0 ∷ 1 ∷ 3 ∷ []) ∷ [])
unfolding opened
full-store = (refl, refl)

-- ---- the last number is 2^63 - 1, refusal 6. Start leaves last = 2^63 - 2

pub last-numbers :
    ToolsGive 9223372036854775805
    (Call.observe 0 10 10 (Sample (pos 5)) gives observed (Ok (Recorded 9223372036854775807))
    ∷ Call.observe 0 20 20 (Sample (pos 6)) gives observed (Err Spent)
    ∷ stores (bytes "a") (1 ∷ []) (Err Spent)
    ∷ shows "/sample?from=9223372036854775807"
    (1 ∷ 9223372036854775805 ∷ 9223372036854775807 ∷ 9223372036854775808
    ∷ 9223372036854775807 ∷ 10 ∷ 4294967301 ∷ [])
    ∷ shows "/current?at=9223372036854775805"
    (1 ∷ 9223372036854775805 ∷ 9223372036854775807 ∷ 9223372036854775808
    ∷ 9223372036854775805 ∷ 1000 ∷ 0 ∷ [])
    ∷ refuses "/sample?from=9223372036854775804" Late
    ∷ refuses "/current?at=9223372036854775804" Late
    ∷ refuses "/sample?from=9223372036854775808" InvalidRequest ∷ [])
unfolding opened
last-numbers = (refl, refl)

-- an asset's event takes it
pub last-event :
    ToolsGive 9223372036854775805
    (stores (bytes "a") (1 ∷ []) (Ok 0)
    ∷ stores (bytes "b") (1 ∷ []) (Err Spent)
    ∷ Call.body (bytes "b") gives returned [] ∷ [])
unfolding opened
last-event = (refl, refl)
