-- Discrete events: document 02, Req 02. What such an item takes and in which order it refuses; that behind every list
-- of calls each of its observations is recorded; and worked calls, equal values at each turn.
use Prim.Native.Nat.{ℕ, suc, ◌+◌, ◌≤◌, ◌<◌}
use native.Mathlib.Numerals.{add-one}
use native.Mathlib.Omega.{arith}
use mathlib.Core.Path.{◌≡◌, refl, sym, ap, ◌∙◌}
use mathlib.Core.Bool.{true, cond}
use mathlib.Core.List.{List, [], ◌∷◌, ◌++◌, map}
use lib.Dec.{ltb}
use lib.IntN.{pos}
use lib.ListN.{length, replicate}
use borrow.Author.Tests.{lt-leb, ne_eqb}
use Rattle.spec.specs.Bytes.{bytes}
use Rattle.spec.specs.Value.{takes, repeats, pack, Fits}
use Rattle.spec.specs.Model.{discrete, items, category, model_ok}
use Rattle.history.specs.Observations.{max_number, last, latest_ok, repeats_at, crowded_at}
use Rattle.history.specs.Calls
use Rattle.history.specs.Calls.{observe_item, observe_by, not_observed, room_for}
use Rattle.history.specs.Reference.{State, Offer, observe_answer, offer_next, offers_answers, last_of}
use Rattle.history.specs.Reference.Begun.{begun}
use Rattle.history.specs.History.{Call, AllTyped, Start, begins, stores_behind, reference_after}
use Rattle.history.specs.History.Output.{observed}
use Rattle.spec.specs.declared.Level.TheVariants.{Normal}
use Rattle.spec.specs.declared.Value.{Value}
use Rattle.spec.specs.declared.Value.TheVariants.{Unavailable, Sample, Event, Condition}
use Rattle.spec.specs.declared.Refusal.TheVariants.{Store, Item, Kind, Spent}
use Rattle.std.specs.Prelude.{Ok, Err}
use Rattle.std.specs.List.{AllByRecursion as Each, range_with_len}
use Rattle.std.proofs.lemmas.List.Elements.{All-replicate, recursion_from_All}
use Rattle.spec.specs.declared.Noted.TheVariants.{Recorded, Same}
use Rattle.history.proofs.Recorded.{last_or-append}
use Rattle.history.proofs.Agree.{observe-agree, store-last}
use Rattle.history.proofs.History.{behind-good}
use Rattle.spec.proofs.Examples.{cells_of}
use Rattle.cases.proofs.Opened.{opened}
use Rattle.cases.proofs.Fixtures.{Step, shows, stores, at, gives-in, StoresGive, StartGives}
use Rattle.cases.proofs.Fixtures.{blank_at, firsts, no_assets}
use Rattle.cases.proofs.Fixtures.Step.{◌gives◌}

-- ---- every value, every store

-- as category 1 does
pub discrete-takes : (v : Value) → takes discrete v ≡ takes 1 v
discrete-takes Unavailable = refl
discrete-takes (Sample x) = refl
discrete-takes (Event c) = refl
discrete-takes (Condition l c) = refl

-- 4, 5, 6, 2: the item's latest row has no part in it
pub discrete-order : (model st : List ℕ) (item time : ℕ) (v : Value) → category model item ≡ discrete
    → observe_item model st item time v
    ≡ cond (ltb item (items model))
    (cond (takes 1 v)
    (observe_by (room_for (category model) (items model) st) (category model) (items model) st item time (pack item v))
    (not_observed Kind st))
    (not_observed Item st)
unfolding observe_item latest_ok repeats_at crowded_at repeats
discrete-order model st item time v e = rw (e, discrete-takes v)

-- ---- every list of calls

-- the reference model has no question behind 4 and 5 but for a number
counted : (model names : List ℕ) (p : State) (item : ℕ) (v : Value) → model_ok model names ≡ true → item < items model
    → category model item ≡ discrete → takes 1 v ≡ true → last_of p < max_number
    → observe_answer model names p item v ≡ Ok (Recorded (suc (last_of p)))
unfolding observe_answer
counted model names p item v m h k g l =
    rw (m, lt-leb _ _ h, k, discrete-takes v, g, ne_eqb (last_of p) max_number (omega arith))

-- the offer is to a discrete item, of a value that it takes
abbrev Discrete : List ℕ → Offer → Type 0
Discrete model o = (o.item < items model) × (category model o.item ≡ discrete) × (takes 1 o.value ≡ true)

-- so many offers in a row, equal or not, have so many numbers in a row
pub discrete-all : (model names : List ℕ) → model_ok model names ≡ true → (os : List Offer) (p : State)
    → Each (Discrete model) os → last_of p + length os ≤ max_number
    → offers_answers model names p os ≡ map (λ (n : ℕ). Ok (Recorded n)) (range_with_len (suc (last_of p)) (length os))
unfolding offers_answers
discrete-all model names m [] p d l = refl
discrete-all model names m (o ∷ os) p ((h, k, g), d) l =
    let a = counted model names p o.item o.value m h k g (omega arith) in
    let q = offer_next model names p o in
    let z : last_of q ≡ suc (last_of p) = rw a (last_or-append p.H 0 _) in
    rw (discrete-all model names m os q d (omega (arith, z)), z, a, add-one (suc (last_of p)))

-- while a number is left, it goes to the observation, whatever stood before
pub discrete-recorded : (a : Start) (p : State) → begins a ≡ begun p → (cs : List Call) → AllTyped cs
    → (item time host : ℕ) (v : Value) → item < items a.model → category a.model item ≡ discrete
    → takes 1 v ≡ true → Fits v → last (stores_behind a cs).observations < max_number
    → (Calls.observe a.model a.names (stores_behind a cs).observations item time host v).answer
    ≡ Ok (Recorded (suc (last (stores_behind a cs).observations)))
discrete-recorded a p e cs t item time host v h k g f l =
    let G = behind-good a p e cs t in
    let q = reference_after a.model a.names p cs in
    let z : last (stores_behind a cs).observations ≡ last_of q = store-last a.model a.names q _ G in
    (observe-agree a.model a.names q _ G item time host v f).0
    ∙ counted a.model a.names q item v G.right h k g (omega (arith, z))
    ∙ ap (λ (n : ℕ). Ok (Recorded (suc n))) (sym z)

-- ---- an event item, two discrete items and an asset change item between them; N 4

abbrev pulse_model : List ℕ
pulse_model = 1 ∷ 4 ∷ 0 ∷ 65537 ∷ 262146 ∷ 196611 ∷ 262148 ∷ []

abbrev pulse_names : List ℕ
pulse_names =
    cells_of
    (bytes "Device" ∷ bytes "EXECUTION" ∷ bytes "PART_COUNT" ∷ bytes "ASSET_CHANGED" ∷ bytes "MESSAGE" ∷ [])

abbrev pulse_start : ℕ → Start
pulse_start B =
    record {
      model = pulse_model;
      names = pulse_names;
      observations = replicate 204 99;
      assets = replicate 546 99;
      N = 4;
      A = 1;
      B = B;
      host = 1000;
    }

abbrev PulsesGive : ℕ → List Step → Type 0
PulsesGive B =
    StartGives (pulse_start B)
    (record {
      N = 4;
      A = 1;
      B = B;
      H = blank_at B 0 ∷ blank_at (B + 1) 1 ∷ blank_at (B + 2) 2 ∷ blank_at (B + 3) 3 ∷ [];
      T = [];
    })

-- ---- both layers

-- Unavailable right after start and once more, an event twice, in either discrete item: each has its number, and the
-- rows show it; the event item beside them says Same
pub discrete-counts :
    PulsesGive 1
    (Call.observe 1 10 10 Unavailable gives observed (Ok (Recorded 5))
    ∷ Call.observe 1 11 11 Unavailable gives observed (Ok (Recorded 6))
    ∷ Call.observe 3 12 12 Unavailable gives observed (Ok (Recorded 7))
    ∷ Call.observe 0 13 13 Unavailable gives observed (Ok Same)
    ∷ Call.observe 1 14 14 (Event 7) gives observed (Ok (Recorded 8))
    ∷ Call.observe 1 14 14 (Event 7) gives observed (Ok (Recorded 9))
    ∷ shows "/sample"
    (4 ∷ 6 ∷ 9 ∷ 10 ∷ 6 ∷ 7 ∷ 8 ∷ 9
    ∷ 11 ∷ 1099511627776 ∷ 12 ∷ 3298534883328 ∷ 14 ∷ 1108101562375 ∷ 14 ∷ 1108101562375 ∷ [])
    ∷ shows "/current"
    (4 ∷ 6 ∷ 9 ∷ 10 ∷ 1 ∷ 9 ∷ 3 ∷ 7
    ∷ 1000 ∷ 0 ∷ 14 ∷ 1108101562375 ∷ 1000 ∷ 2199023255552 ∷ 12 ∷ 3298534883328 ∷ [])
    ∷ shows "/current?at=8&path=//Device//DataItem[@type=\"PART_COUNT\"]"
    (1 ∷ 6 ∷ 9 ∷ 10 ∷ 8 ∷ 14 ∷ 1108101562375 ∷ [])
    ∷ Call.observe 0 15 15 (Event 7) gives observed (Ok (Recorded 10))
    ∷ Call.observe 0 16 16 (Event 7) gives observed (Ok Same)
    ∷ Call.observe 3 17 17 (Event 7) gives observed (Ok (Recorded 11))
    ∷ Call.observe 3 17 17 (Event 7) gives observed (Ok (Recorded 12))
    ∷ stores (bytes "a") (5 ∷ []) (Ok 0)
    ∷ shows "/sample?from=11"
    (3 ∷ 10 ∷ 13 ∷ 14 ∷ 11 ∷ 12 ∷ 13
    ∷ 17 ∷ 3307124817927 ∷ 17 ∷ 3307124817927 ∷ 10 ∷ 2207613190144 ∷ []) ∷ [])
unfolding opened
discrete-counts = (refl, refl)

-- a sample and a condition get 5, as does every value of the asset change item; the highest code is taken
pub discrete-kinds :
    PulsesGive 1
    (Call.observe 1 10 10 (Sample (pos 7)) gives observed (Err Kind)
    ∷ Call.observe 1 10 10 (Condition Normal 0) gives observed (Err Kind)
    ∷ Call.observe 3 10 10 (Sample (pos 7)) gives observed (Err Kind)
    ∷ Call.observe 2 10 10 (Event 7) gives observed (Err Kind)
    ∷ Call.observe 2 10 10 Unavailable gives observed (Err Kind)
    ∷ Call.observe 4 10 10 Unavailable gives observed (Err Item)
    ∷ Call.observe 1 10 10 (Event 4294967295) gives observed (Ok (Recorded 5)) ∷ [])
unfolding opened
discrete-kinds = (refl, refl)

-- last is 2^63 - 1: 4 and 5 before 6, and 6 for the equal value to which category 1 says Same; one number left: it is
-- given to an equal value
pub discrete-spent :
    PulsesGive 9223372036854775804
    (Call.observe 0 10 10 Unavailable gives observed (Ok Same)
    ∷ Call.observe 1 10 10 Unavailable gives observed (Err Spent)
    ∷ Call.observe 1 10 10 (Event 7) gives observed (Err Spent)
    ∷ Call.observe 1 10 10 (Sample (pos 7)) gives observed (Err Kind)
    ∷ Call.observe 4 10 10 Unavailable gives observed (Err Item) ∷ [])
    × PulsesGive 9223372036854775803
    (Call.observe 0 10 10 Unavailable gives observed (Ok Same)
    ∷ Call.observe 1 10 10 Unavailable gives observed (Ok (Recorded 9223372036854775807))
    ∷ Call.observe 1 10 10 Unavailable gives observed (Err Spent)
    ∷ Call.observe 0 10 10 Unavailable gives observed (Ok Same) ∷ [])
unfolding opened
discrete-spent = ((refl, refl), (refl, refl))

-- a delivery: an equal event and an equal Unavailable of discrete items among those of the event item, and a sample
pub discrete-delivered :
    PulsesGive 1
    (gives-in
    (at 3 10 0 ∷ at 0 10 0 ∷ at 1 10 8589934599 ∷ at 0 10 8589934599 ∷ at 1 10 8589934599 ∷ at 0 10 8589934599
    ∷ at 1 10 4294967303 ∷ at 3 10 0 ∷ [])
    8 (Ok 8) (5 ∷ 0 ∷ 6 ∷ 7 ∷ 8 ∷ 0 ∷ 9223372036854775813 ∷ 9 ∷ [])
    ∷ shows "/sample"
    (4 ∷ 6 ∷ 9 ∷ 10 ∷ 6 ∷ 7 ∷ 8 ∷ 9
    ∷ 10 ∷ 1108101562375 ∷ 10 ∷ 8589934599 ∷ 10 ∷ 1108101562375 ∷ 10 ∷ 3298534883328 ∷ []) ∷ [])
unfolding opened
discrete-delivered = (refl, refl)

-- one discrete item, N 1, behind its start
abbrev one_model : List ℕ
one_model = 1 ∷ 1 ∷ 0 ∷ 262144 ∷ []

abbrev one_name : List ℕ
one_name = cells_of (bytes "A" ∷ [])

abbrev one_state : State
one_state = record { N = 1; A = 1; B = 1; H = blank_at 1 0 ∷ []; T = [] }

abbrev pulse : Offer
pulse = record { item = 0; time = 10; host = 77; value = Event 7 }

-- 256 equal events in one delivery: the stores by computation, the reference model by what holds of every such list
pub discrete-most :
    StoresGive one_model one_name
    (record { observations = 1 ∷ 1 ∷ 1 ∷ 1 ∷ 1000 ∷ 0 ∷ firsts (1 ∷ 1000 ∷ 0 ∷ 0 ∷ 0 ∷ 0 ∷ []); assets = no_assets })
    (gives-in (replicate 256 (at 0 10 8589934599)) 256 (Ok 256) (range_with_len 2 256)
    ∷ shows "/sample" (1 ∷ 257 ∷ 257 ∷ 258 ∷ 257 ∷ 10 ∷ 8589934599 ∷ []) ∷ [])
    × (offers_answers one_model one_name one_state (replicate 256 pulse)
    ≡ map (λ (n : ℕ). Ok (Recorded n)) (range_with_len 2 256))
unfolding opened
discrete-most = (
  refl,
  discrete-all one_model one_name refl (replicate 256 pulse) one_state
      (recursion_from_All (Discrete one_model) (replicate 256 pulse)
      (All-replicate (Discrete one_model) 256 pulse (omega arith, refl, refl))) (omega arith),
)

-- ---- stores that start did not make

-- numbers up to l; the word of the ring's four places, and the latest words of items 0 and 1
abbrev pulse_store : ℕ → ℕ → ℕ → ℕ → List ℕ
pulse_store l e x y =
    4 ∷ 4 ∷ 1 ∷ l
    ∷ 0 ∷ 0 ∷ 0 ∷ 0 ∷ e ∷ e ∷ e ∷ e
    ∷ (firsts (1 ∷ 2 ∷ 3 ∷ 4 ∷ 0 ∷ 0 ∷ 0 ∷ 0 ∷ x ∷ y ∷ 2199023255552 ∷ 3298534883328 ∷ []) ++ replicate 96 0)

abbrev Latest : ℕ → ℕ → List Step → Type 0
Latest x y = StoresGive pulse_model pulse_names (record { observations = pulse_store 4 0 x y; assets = no_assets })

-- a discrete item's latest word is not read: the word to be added, another item's, no item's; the event item's is
pub discrete-latest :
    Latest 8589934599 1108101562375
    (Call.observe 0 10 10 (Event 7) gives observed (Ok Same)
    ∷ Call.observe 1 10 10 (Event 7) gives observed (Ok (Recorded 5)) ∷ [])
    × Latest 18446744073709551615 3307124817927
    (Call.observe 1 10 10 (Event 7) gives observed (Ok (Recorded 5))
    ∷ Call.observe 0 10 10 (Event 7) gives observed (Ok (Recorded 6)) ∷ [])
    × Latest 0 18446744073709551615 (Call.observe 1 10 10 Unavailable gives observed (Ok (Recorded 5)) ∷ [])
unfolding opened
discrete-latest = (refl, refl, refl)

-- every entry of the ring has item 4, which the model doesn't have
abbrev Entry : ℕ → List Step → Type 0
Entry l =
    StoresGive pulse_model pulse_names
    (record { observations = pulse_store l 4398046511104 0 1099511627776; assets = no_assets })

-- 5 before 2, 2 for an equal value; and 6 before 2
pub discrete-entry :
    Entry 4
    (Call.observe 0 10 10 Unavailable gives observed (Ok Same)
    ∷ Call.observe 1 10 10 Unavailable gives observed (Err Store)
    ∷ Call.observe 1 10 10 (Sample (pos 7)) gives observed (Err Kind) ∷ [])
    × Entry 9223372036854775807 (Call.observe 1 10 10 Unavailable gives observed (Err Spent) ∷ [])
unfolding opened
discrete-entry = (refl, refl)
