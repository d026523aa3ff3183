-- Conditions standing on one item, worked: document 02, Req 05. Both layers by lists of calls; damaged stores, which
-- the reference model doesn't have, by the stores' calls. Observations are made at ten times their number.
use Prim.Native.Nat.{ℕ, ◌+◌, ◌*◌}
use mathlib.Core.Path.{◌≡◌, refl}
use mathlib.Core.List.{List, [], ◌∷◌, ◌++◌, map}
use lib.IntN.{pos}
use lib.ListN.{length, replicate}
use Rattle.spec.specs.Bytes.{bytes, pad}
use Rattle.history.specs.Reference.{Observation}
use Rattle.history.specs.History.{Call, Stores, Start, stores_run, stores_after, stores_behind}
use Rattle.history.specs.History.Output.{observed}
use Rattle.spec.specs.declared.Level.TheVariants.{Normal, Warning, Fault}
use Rattle.spec.specs.declared.Value.{Value}
use Rattle.spec.specs.declared.Value.TheVariants.{Unavailable, Sample, Event, Condition}
use Rattle.spec.specs.declared.Refusal.{Refusal}
use Rattle.spec.specs.declared.Refusal.TheVariants.{Store, Kind, Spent, InvalidXpath, Late, Early, Crowded}
use Rattle.std.specs.Prelude.{Ok, Err}
use Rattle.spec.specs.declared.Noted.TheVariants.{Recorded, Same}
use Rattle.spec.proofs.Examples.{cells_of, z, w, f}
use Rattle.cases.proofs.Opened.{opened}
use Rattle.cases.proofs.Fixtures.{Step, call_of, output_of, shows, refuses, refuses_in, stores, at, gives-in}
use Rattle.cases.proofs.Fixtures.{StoresGive, BothGive, StartGives, blank_at, table_of, no_assets}
use Rattle.cases.proofs.Fixtures.{alarm_model, alarm_names, eight_warnings}
use Rattle.cases.proofs.Fixtures.Step.{◌gives◌}

-- ---- calls

abbrev Z : ℕ → Value
Z c = Condition Normal c

abbrev W : ℕ → Value
W c = Condition Warning c

abbrev F : ℕ → Value
F c = Condition Fault c

-- a word of item 0, of item i instead
abbrev on : ℕ → ℕ → ℕ
on i x = 1099511627776 * i + x

-- item 0 takes v as number n, says Same, refuses it
abbrev takes : ℕ → Value → Step
takes n v = Call.observe 0 (10 * n) 0 v gives observed (Ok (Recorded n))

abbrev same : Value → Step
same v = Call.observe 0 5 5 v gives observed (Ok Same)

abbrev denies : Value → Refusal → Step
denies v r = Call.observe 0 5 5 v gives observed (Err r)

-- ---- both layers: one condition item

-- behind a start with ring size N and first number B, which is the item's Unavailable
abbrev alarm_start : ℕ → ℕ → Start
alarm_start N B =
    record {
      model = alarm_model;
      names = alarm_names;
      observations = replicate (2 * N + 52) 99;
      assets = replicate 546 99;
      N = N;
      A = 1;
      B = B;
      host = 1000;
    }

abbrev AlarmsGive : ℕ → ℕ → List Step → Type 0
AlarmsGive N B = StartGives (alarm_start N B) (record { N = N; A = 1; B = B; H = blank_at B 0 ∷ []; T = [] })

-- one item behind these observations: ring size N, last, ring, latest, checkpoint
abbrev alarms : ℕ → ℕ → List ℕ → List ℕ → List ℕ → Stores
alarms N l ring latest checkpoint =
    record { observations = N ∷ 1 ∷ 1 ∷ l ∷ (ring ++ (latest ++ checkpoint)); assets = no_assets }

abbrev seen : ℕ → Value → Observation
seen n v = record { number = n; item = 0; time = 10 * n; value = v }

abbrev Behind : List Observation → Stores → ℕ → List Step → Type 0
Behind H s N = BothGive alarm_model alarm_names s (record { N = N; A = 1; B = 1; H = blank_at 1 0 ∷ H; T = [] })

-- these calls leave these stores
abbrev Leaves : Stores → List Step → Stores → Type 0
Leaves s ss t = (stores_after alarm_model alarm_names s (map call_of ss)).observations ≡ t.observations

abbrev none : List ℕ
none = replicate 24 0

-- behind two observations of the words x and y that stand, or three Warnings of the codes 1 to 3; N 3
abbrev PairGives : Value → ℕ → Value → ℕ → List Step → Type 0
PairGives u x v y =
    Behind (seen 2 u ∷ seen 3 v ∷ [])
    (alarms 3 3 (1000 ∷ 20 ∷ 30 ∷ 0 ∷ x ∷ y ∷ []) (table_of (2 ∷ 3 ∷ []) (20 ∷ 30 ∷ []) (x ∷ y ∷ [])) none) 3

abbrev three : Stores
three =
    alarms 3 4 (40 ∷ 20 ∷ 30 ∷ w 3 ∷ w 1 ∷ w 2 ∷ [])
    (table_of (2 ∷ 3 ∷ 4 ∷ []) (20 ∷ 30 ∷ 40 ∷ []) (w 1 ∷ w 2 ∷ w 3 ∷ []))
    (table_of (1 ∷ []) (1000 ∷ []) (0 ∷ []))

abbrev ThreeGive : List Step → Type 0
ThreeGive = Behind (seen 2 (W 1) ∷ seen 3 (W 2) ∷ seen 4 (W 3) ∷ []) three 3

-- a new level takes its code's place: numbers need not rise
pub level-in-place :
    PairGives (W 1) (w 1) (W 2) (w 2)
    (shows "/current" (2 ∷ 1 ∷ 3 ∷ 4 ∷ 2 ∷ 3 ∷ 20 ∷ w 1 ∷ 30 ∷ w 2 ∷ [])
    ∷ takes 4 (F 1)
    ∷ shows "/current" (2 ∷ 2 ∷ 4 ∷ 5 ∷ 4 ∷ 3 ∷ 40 ∷ f 1 ∷ 30 ∷ w 2 ∷ [])
    ∷ same (F 1)
    ∷ takes 5 (W 1) ∷ [])
unfolding opened
level-in-place = (refl, refl)

-- one code's level: up, the same, down
pub level-alone :
    AlarmsGive 8 1
    (takes 2 (W 5)
    ∷ same (W 5)
    ∷ takes 3 (F 5)
    ∷ same (F 5)
    ∷ shows "/current" (1 ∷ 1 ∷ 3 ∷ 4 ∷ 3 ∷ 30 ∷ f 5 ∷ [])
    ∷ takes 4 (W 5) ∷ [])
unfolding opened
level-alone = (refl, refl)

-- a Normal takes its code's entry from the middle
pub code-cleared :
    ThreeGive
    (same (Z 4)
    ∷ takes 5 (Z 2)
    ∷ shows "/current" (2 ∷ 3 ∷ 5 ∷ 6 ∷ 2 ∷ 4 ∷ 20 ∷ w 1 ∷ 40 ∷ w 3 ∷ [])
    ∷ same (Z 2) ∷ [])
unfolding opened
code-cleared = (refl, refl)

-- raised again, it is the last
pub code-again :
    PairGives (W 1) (w 1) (W 2) (w 2)
    (takes 4 (Z 1)
    ∷ takes 5 (W 1)
    ∷ shows "/current" (2 ∷ 3 ∷ 5 ∷ 6 ∷ 3 ∷ 5 ∷ 30 ∷ w 2 ∷ 50 ∷ w 1 ∷ []) ∷ [])
unfolding opened
code-again = (refl, refl)

-- the last one's Normal stays as the newest; Normal 0 clears nothing then
pub last-cleared :
    AlarmsGive 8 1
    (takes 2 (W 7)
    ∷ takes 3 (Z 7)
    ∷ shows "/current" (1 ∷ 1 ∷ 3 ∷ 4 ∷ 3 ∷ 30 ∷ z 7 ∷ [])
    ∷ same (Z 0)
    ∷ same (Z 7) ∷ [])
unfolding opened
last-cleared = (refl, refl)

-- Unavailable since start: Normal 7 clears nothing, Normal 0 is taken, once; and again behind an observed Unavailable
pub after-unavailable :
    AlarmsGive 8 1
    (same Unavailable
    ∷ same (Z 7)
    ∷ shows "/current" (1 ∷ 1 ∷ 1 ∷ 2 ∷ 1 ∷ 1000 ∷ 0 ∷ [])
    ∷ takes 2 (Z 0)
    ∷ same (Z 0)
    ∷ same (Z 7)
    ∷ shows "/current" (1 ∷ 1 ∷ 2 ∷ 3 ∷ 2 ∷ 20 ∷ z 0 ∷ [])
    ∷ takes 3 Unavailable
    ∷ same Unavailable
    ∷ takes 4 (Z 0) ∷ [])
unfolding opened
after-unavailable = (refl, refl)

-- a Warning ends Unavailable; Normal 0 clears it, and the same Warning is taken again
pub raised-again :
    AlarmsGive 8 1
    (takes 2 (W 5)
    ∷ shows "/current" (1 ∷ 1 ∷ 2 ∷ 3 ∷ 2 ∷ 20 ∷ w 5 ∷ [])
    ∷ takes 3 (Z 0)
    ∷ takes 4 (W 5)
    ∷ same (W 5) ∷ [])
unfolding opened
raised-again = (refl, refl)

-- Fault 0 is of a code like others; Normal 0 clears all, not that one alone
pub code-zero :
    PairGives (F 0) (f 0) (W 1) (w 1)
    (same (F 0)
    ∷ takes 4 (Z 0)
    ∷ shows "/current" (1 ∷ 2 ∷ 4 ∷ 5 ∷ 4 ∷ 40 ∷ z 0 ∷ []) ∷ [])
    × PairGives (F 0) (f 0) (W 1) (w 1)
    (takes 4 (W 0)
    ∷ shows "/current" (2 ∷ 2 ∷ 4 ∷ 5 ∷ 4 ∷ 3 ∷ 40 ∷ w 0 ∷ 30 ∷ w 1 ∷ []) ∷ [])
unfolding opened
code-zero = ((refl, refl), (refl, refl))

-- codes up to 2^24 - 1, at each level
pub code-bounds :
    AlarmsGive 8 1
    (denies (Z 16777216) Kind
    ∷ denies (W 16777216) Kind
    ∷ denies (F 16777216) Kind
    ∷ same (Z 16777215)
    ∷ takes 2 (W 16777215)
    ∷ takes 3 (F 16777215)
    ∷ shows "/current" (1 ∷ 1 ∷ 3 ∷ 4 ∷ 3 ∷ 30 ∷ f 16777215 ∷ [])
    ∷ takes 4 (Z 16777215) ∷ [])
unfolding opened
code-bounds = (refl, refl)

-- a delivery: its words go the same ways, 5 for a level above 2
pub codes-delivered :
    AlarmsGive 8 1
    (gives-in
    (at 0 10 (w 1) ∷ at 0 10 (w 1) ∷ at 0 10 (f 1) ∷ at 0 10 (z 2) ∷ at 0 10 (z 1) ∷ at 0 10 (z 0)
    ∷ at 0 10 12935233536 ∷ at 0 10 0 ∷ at 0 10 0 ∷ at 0 10 (z 0) ∷ [])
    10 (Ok 10) (2 ∷ 0 ∷ 3 ∷ 0 ∷ 4 ∷ 0 ∷ 9223372036854775813 ∷ 5 ∷ 0 ∷ 6 ∷ []) ∷ [])
unfolding opened
codes-delivered = (refl, refl)

-- ---- eight codes and a ninth

-- a ninth is 19 and isn't recorded; its Normal, and a level that stands for one of the eight, are Same
pub ninth-code :
    AlarmsGive 16 1
    (takes 2 (W 1) ∷ takes 3 (W 2) ∷ takes 4 (W 3) ∷ takes 5 (W 4)
    ∷ takes 6 (W 5) ∷ takes 7 (W 6) ∷ takes 8 (W 7) ∷ takes 9 (W 8)
    ∷ denies (W 9) Crowded
    ∷ same (Z 9)
    ∷ same (W 8)
    ∷ takes 10 (F 8) ∷ [])
unfolding opened
ninth-code = (refl, refl)

-- Warnings of the codes 1 to 8; N 1
abbrev eight_stores : Stores
eight_stores =
    alarms 1 9 (90 ∷ w 8 ∷ []) eight_warnings
    (table_of (2 ∷ 3 ∷ 4 ∷ 5 ∷ 6 ∷ 7 ∷ 8 ∷ []) (20 ∷ 30 ∷ 40 ∷ 50 ∷ 60 ∷ 70 ∷ 80 ∷ [])
    (w 1 ∷ w 2 ∷ w 3 ∷ w 4 ∷ w 5 ∷ w 6 ∷ w 7 ∷ []))

abbrev EightGive : List Step → Type 0
EightGive =
    Behind
    (seen 2 (W 1) ∷ seen 3 (W 2) ∷ seen 4 (W 3) ∷ seen 5 (W 4) ∷ seen 6 (W 5) ∷ seen 7 (W 6) ∷ seen 8 (W 7)
    ∷ seen 9 (W 8) ∷ [])
    eight_stores 1

-- all eight are shown; a new level is in its place
pub eight-shown :
    EightGive
    (shows "/current"
    (8 ∷ 9 ∷ 9 ∷ 10 ∷ 2 ∷ 3 ∷ 4 ∷ 5 ∷ 6 ∷ 7 ∷ 8 ∷ 9
    ∷ 20 ∷ w 1 ∷ 30 ∷ w 2 ∷ 40 ∷ w 3 ∷ 50 ∷ w 4 ∷ 60 ∷ w 5 ∷ 70 ∷ w 6 ∷ 80 ∷ w 7 ∷ 90 ∷ w 8 ∷ [])
    ∷ takes 10 (F 3)
    ∷ shows "/current?at=10"
    (8 ∷ 10 ∷ 10 ∷ 11 ∷ 2 ∷ 3 ∷ 10 ∷ 5 ∷ 6 ∷ 7 ∷ 8 ∷ 9
    ∷ 20 ∷ w 1 ∷ 30 ∷ w 2 ∷ 100 ∷ f 3 ∷ 50 ∷ w 4 ∷ 60 ∷ w 5 ∷ 70 ∷ w 6 ∷ 80 ∷ w 7 ∷ 90 ∷ w 8 ∷ []) ∷ [])
unfolding opened
eight-shown = (refl, refl)

-- one code is cleared and those behind it move down; in a delivery: then a ninth has room
pub eight-again :
    EightGive
    (denies (F 9) Crowded
    ∷ denies (W 0) Crowded
    ∷ takes 10 (Z 1)
    ∷ shows "/current"
    (7 ∷ 10 ∷ 10 ∷ 11 ∷ 3 ∷ 4 ∷ 5 ∷ 6 ∷ 7 ∷ 8 ∷ 9
    ∷ 30 ∷ w 2 ∷ 40 ∷ w 3 ∷ 50 ∷ w 4 ∷ 60 ∷ w 5 ∷ 70 ∷ w 6 ∷ 80 ∷ w 7 ∷ 90 ∷ w 8 ∷ []) ∷ [])
    × EightGive
    (gives-in (at 0 10 (w 9) ∷ at 0 10 (z 3) ∷ at 0 10 (w 9) ∷ at 0 10 (w 3) ∷ []) 4 (Ok 4)
    (9223372036854775827 ∷ 10 ∷ 11 ∷ 9223372036854775827 ∷ []) ∷ [])
unfolding opened
eight-again = ((refl, refl), (refl, refl))

-- Unavailable and Normal 0 clear all eight
pub eight-cleared :
    EightGive
    (takes 10 Unavailable
    ∷ shows "/current" (1 ∷ 10 ∷ 10 ∷ 11 ∷ 10 ∷ 100 ∷ 0 ∷ [])
    ∷ same Unavailable
    ∷ takes 11 (W 9) ∷ [])
    × EightGive
    (takes 10 (Z 0)
    ∷ shows "/current" (1 ∷ 10 ∷ 10 ∷ 11 ∷ 10 ∷ 100 ∷ z 0 ∷ [])
    ∷ same (Z 0)
    ∷ same (Z 8) ∷ [])
unfolding opened
eight-cleared = ((refl, refl), (refl, refl))

-- ---- behind the ring's oldest number: what current at each held number shows, and what stands in the stores

-- N 1: W 1, W 2; then F 1; then Normal 2, Normal 1; then Unavailable
abbrev one : Stores
one =
    alarms 1 4 (40 ∷ f 1 ∷ []) (table_of (4 ∷ 3 ∷ []) (40 ∷ 30 ∷ []) (f 1 ∷ w 2 ∷ []))
    (table_of (2 ∷ 3 ∷ []) (20 ∷ 30 ∷ []) (w 1 ∷ w 2 ∷ []))

pub ring-of-one :
    AlarmsGive 1 1
    (takes 2 (W 1)
    ∷ shows "/current?at=2" (1 ∷ 2 ∷ 2 ∷ 3 ∷ 2 ∷ 20 ∷ w 1 ∷ [])
    ∷ takes 3 (W 2)
    ∷ refuses "/current?at=2" Late
    ∷ shows "/current?at=3" (2 ∷ 3 ∷ 3 ∷ 4 ∷ 2 ∷ 3 ∷ 20 ∷ w 1 ∷ 30 ∷ w 2 ∷ []) ∷ [])
    × Behind (seen 2 (W 1) ∷ seen 3 (W 2) ∷ seen 4 (F 1) ∷ []) one 1
    (shows "/current?at=4" (2 ∷ 4 ∷ 4 ∷ 5 ∷ 4 ∷ 3 ∷ 40 ∷ f 1 ∷ 30 ∷ w 2 ∷ [])
    ∷ takes 5 (Z 2)
    ∷ shows "/current?at=5" (1 ∷ 5 ∷ 5 ∷ 6 ∷ 4 ∷ 40 ∷ f 1 ∷ [])
    ∷ takes 6 (Z 1)
    ∷ shows "/current?at=6" (1 ∷ 6 ∷ 6 ∷ 7 ∷ 6 ∷ 60 ∷ z 1 ∷ []) ∷ [])
    × Behind (seen 2 (W 1) ∷ seen 3 (W 2) ∷ seen 4 (F 1) ∷ []) one 1
    (takes 5 Unavailable
    ∷ shows "/current?at=5" (1 ∷ 5 ∷ 5 ∷ 6 ∷ 5 ∷ 50 ∷ 0 ∷ []) ∷ [])
unfolding opened
ring-of-one = ((refl, refl), (refl, refl), (refl, refl))

-- what the stores hold behind them
pub ring-of-one-left :
    ((stores_behind (alarm_start 1 1) (map call_of (takes 2 (W 1) ∷ takes 3 (W 2) ∷ takes 4 (F 1) ∷ []))).observations
    ≡ one.observations)
    × Leaves one (takes 5 (Z 2) ∷ takes 6 (Z 1) ∷ [])
    (alarms 1 6 (60 ∷ z 1 ∷ []) (table_of (6 ∷ []) (60 ∷ []) (z 1 ∷ [])) (table_of (4 ∷ []) (40 ∷ []) (f 1 ∷ [])))
unfolding opened
ring-of-one-left = (refl, refl)

-- N 3: W 1, W 2, W 3; then F 1, Normal 2; then Unavailable, W 4; then W 5, Normal 4
abbrev five : Stores
five =
    alarms 3 6 (40 ∷ 50 ∷ 60 ∷ w 3 ∷ f 1 ∷ z 2 ∷ []) (table_of (5 ∷ 4 ∷ []) (50 ∷ 40 ∷ []) (f 1 ∷ w 3 ∷ []))
    (table_of (2 ∷ 3 ∷ []) (20 ∷ 30 ∷ []) (w 1 ∷ w 2 ∷ []))

abbrev seven : Stores
seven =
    alarms 3 8 (70 ∷ 80 ∷ 60 ∷ 0 ∷ w 4 ∷ z 2 ∷ []) (table_of (8 ∷ []) (80 ∷ []) (w 4 ∷ []))
    (table_of (5 ∷ 3 ∷ 4 ∷ []) (50 ∷ 30 ∷ 40 ∷ []) (f 1 ∷ w 2 ∷ w 3 ∷ []))

abbrev nine : Stores
nine =
    alarms 3 10 (100 ∷ 80 ∷ 90 ∷ z 4 ∷ w 4 ∷ w 5 ∷ []) (table_of (9 ∷ []) (90 ∷ []) (w 5 ∷ []))
    (table_of (7 ∷ []) (70 ∷ []) (0 ∷ []))

abbrev seen-five : List Observation
seen-five = seen 2 (W 1) ∷ seen 3 (W 2) ∷ seen 4 (W 3) ∷ seen 5 (F 1) ∷ seen 6 (Z 2) ∷ []

pub ring-of-three :
    ThreeGive
    (refuses "/current?at=1" Late
    ∷ shows "/current?at=2" (1 ∷ 2 ∷ 4 ∷ 5 ∷ 2 ∷ 20 ∷ w 1 ∷ [])
    ∷ shows "/current?at=3" (2 ∷ 2 ∷ 4 ∷ 5 ∷ 2 ∷ 3 ∷ 20 ∷ w 1 ∷ 30 ∷ w 2 ∷ [])
    ∷ shows "/current?at=4" (3 ∷ 2 ∷ 4 ∷ 5 ∷ 2 ∷ 3 ∷ 4 ∷ 20 ∷ w 1 ∷ 30 ∷ w 2 ∷ 40 ∷ w 3 ∷ []) ∷ [])
    × ThreeGive
    (takes 5 (F 1)
    ∷ takes 6 (Z 2)
    ∷ shows "/current?at=4" (3 ∷ 4 ∷ 6 ∷ 7 ∷ 2 ∷ 3 ∷ 4 ∷ 20 ∷ w 1 ∷ 30 ∷ w 2 ∷ 40 ∷ w 3 ∷ [])
    ∷ shows "/current?at=5" (3 ∷ 4 ∷ 6 ∷ 7 ∷ 5 ∷ 3 ∷ 4 ∷ 50 ∷ f 1 ∷ 30 ∷ w 2 ∷ 40 ∷ w 3 ∷ [])
    ∷ shows "/current?at=6" (2 ∷ 4 ∷ 6 ∷ 7 ∷ 5 ∷ 4 ∷ 50 ∷ f 1 ∷ 40 ∷ w 3 ∷ []) ∷ [])
    × Behind seen-five five 3
    (takes 7 Unavailable
    ∷ takes 8 (W 4)
    ∷ shows "/current?at=6" (2 ∷ 6 ∷ 8 ∷ 9 ∷ 5 ∷ 4 ∷ 50 ∷ f 1 ∷ 40 ∷ w 3 ∷ [])
    ∷ shows "/current?at=7" (1 ∷ 6 ∷ 8 ∷ 9 ∷ 7 ∷ 70 ∷ 0 ∷ [])
    ∷ shows "/current?at=8" (1 ∷ 6 ∷ 8 ∷ 9 ∷ 8 ∷ 80 ∷ w 4 ∷ []) ∷ [])
    × Behind (seen-five ++ (seen 7 Unavailable ∷ seen 8 (W 4) ∷ [])) seven 3
    (takes 9 (W 5)
    ∷ takes 10 (Z 4)
    ∷ shows "/current?at=8" (1 ∷ 8 ∷ 10 ∷ 11 ∷ 8 ∷ 80 ∷ w 4 ∷ [])
    ∷ shows "/current?at=9" (2 ∷ 8 ∷ 10 ∷ 11 ∷ 8 ∷ 9 ∷ 80 ∷ w 4 ∷ 90 ∷ w 5 ∷ [])
    ∷ shows "/current?at=10" (1 ∷ 8 ∷ 10 ∷ 11 ∷ 9 ∷ 90 ∷ w 5 ∷ []) ∷ [])
unfolding opened
ring-of-three = ((refl, refl), (refl, refl), (refl, refl), (refl, refl))

pub ring-of-three-left :
    ((stores_behind (alarm_start 3 1) (map call_of (takes 2 (W 1) ∷ takes 3 (W 2) ∷ takes 4 (W 3) ∷ []))).observations
    ≡ three.observations)
    × Leaves three (takes 5 (F 1) ∷ takes 6 (Z 2) ∷ []) five
    × Leaves five (takes 7 Unavailable ∷ takes 8 (W 4) ∷ []) seven
    × Leaves seven (takes 9 (W 5) ∷ takes 10 (Z 4) ∷ []) nine
unfolding opened
ring-of-three-left = (refl, refl, refl, refl)

-- ---- where two refusals meet, both layers

-- the eighth code takes the highest number: 5, Same and 19 before 6
pub crowded-spent :
    AlarmsGive 1 9223372036854775799
    (takes 9223372036854775800 (W 1) ∷ takes 9223372036854775801 (W 2) ∷ takes 9223372036854775802 (W 3)
    ∷ takes 9223372036854775803 (W 4) ∷ takes 9223372036854775804 (W 5) ∷ takes 9223372036854775805 (W 6)
    ∷ takes 9223372036854775806 (W 7) ∷ takes 9223372036854775807 (W 8)
    ∷ denies (W 16777216) Kind
    ∷ same (W 1)
    ∷ same (Z 9)
    ∷ denies (W 9) Crowded
    ∷ denies (F 1) Spent
    ∷ denies (Z 1) Spent
    ∷ denies (Z 0) Spent
    ∷ denies Unavailable Spent ∷ [])
unfolding opened
crowded-spent = (refl, refl)

-- ---- stores that start did not make: one condition item

abbrev AlarmStores : Stores → List Step → Type 0
AlarmStores = StoresGive alarm_model alarm_names

-- each of these gives so
abbrev EachGives : (List ℕ → Stores) → List (List ℕ) → List Step → Type 0
EachGives s ts ss =
    map (λ t. stores_run alarm_model alarm_names (s t) (map call_of ss)) ts ≡ replicate (length ts) (map output_of ss)

-- eight rows, a code twice
abbrev twice : List ℕ
twice =
    table_of (2 ∷ 3 ∷ 4 ∷ 5 ∷ 6 ∷ 7 ∷ 8 ∷ 9 ∷ []) [] (w 1 ∷ w 2 ∷ w 3 ∷ w 4 ∷ w 5 ∷ w 6 ∷ w 7 ∷ f 1 ∷ [])

-- a gap; an unused row with a time, with a word; behind a Warning a Normal, an Unavailable, another item's Warning,
-- levels 3, 5 and 255, an event with a Warning's bits; a Normal in front of one; a code twice: at two levels, at one,
-- in the last row
abbrev wrong_forms : List (List ℕ)
wrong_forms =
    table_of (2 ∷ 0 ∷ 4 ∷ []) (20 ∷ 0 ∷ 40 ∷ []) (w 1 ∷ 0 ∷ w 3 ∷ [])
    ∷ table_of (2 ∷ []) (20 ∷ 30 ∷ []) (w 1 ∷ [])
    ∷ table_of (2 ∷ []) (20 ∷ 0 ∷ 0 ∷ 0 ∷ 0 ∷ 0 ∷ 0 ∷ 90 ∷ []) (w 1 ∷ [])
    ∷ table_of (2 ∷ []) (20 ∷ []) (w 1 ∷ w 2 ∷ [])
    ∷ map (λ x. table_of (2 ∷ 3 ∷ []) (20 ∷ 30 ∷ []) (w 1 ∷ x ∷ []))
    (z 2 ∷ 0 ∷ on 1 (w 2) ∷ 12935233538 ∷ 12968787970 ∷ 17163091970 ∷ 8606711810 ∷ [])
    ++ (table_of (2 ∷ 3 ∷ []) (20 ∷ 30 ∷ []) (z 1 ∷ w 2 ∷ [])
    ∷ table_of (2 ∷ 3 ∷ []) (20 ∷ 30 ∷ []) (w 1 ∷ f 1 ∷ [])
    ∷ table_of (2 ∷ 3 ∷ []) (20 ∷ 30 ∷ []) (w 1 ∷ w 1 ∷ [])
    ∷ twice ∷ [])

-- N 1; number 9 is Warning 9. The latest's form, and that there is one, by observe and current
pub latest-wrong :
    EachGives (λ t. alarms 1 9 (90 ∷ w 9 ∷ []) t none) (none ∷ wrong_forms)
    (denies (W 1) Store ∷ refuses "/current" Store ∷ [])
unfolding opened
latest-wrong = refl

-- the checkpoint's, by what overwrites number 9 and by at; also where number 9, an Unavailable, clears it
pub checkpoint-wrong :
    EachGives (alarms 1 9 (90 ∷ w 9 ∷ []) (table_of (9 ∷ []) (90 ∷ []) (w 9 ∷ []))) wrong_forms
    (denies (W 5) Store ∷ refuses "/current?at=9" Store ∷ [])
    × AlarmStores (alarms 1 9 (90 ∷ 0 ∷ []) (table_of (9 ∷ []) (90 ∷ []) (0 ∷ [])) twice)
    (denies (W 5) Store ∷ refuses "/current?at=9" Store ∷ [])
unfolding opened
checkpoint-wrong = (refl, refl)

-- of the latest: observe's 2 behind 5, before Same, 19 and 6; current's behind 11, before 15; at doesn't read it
pub latest-orders :
    AlarmStores (alarms 1 9 (90 ∷ w 9 ∷ []) twice none)
    (denies (W 16777216) Kind
    ∷ denies (W 1) Store
    ∷ denies (Z 9) Store
    ∷ denies (W 9) Store
    ∷ refuses "/current?path=//C" InvalidXpath
    ∷ refuses_in 3 "/current" Store
    ∷ shows "/current?at=9" (1 ∷ 9 ∷ 9 ∷ 10 ∷ 9 ∷ 90 ∷ w 9 ∷ []) ∷ [])
    × AlarmStores (alarms 1 9223372036854775807 (90 ∷ w 9 ∷ []) twice none)
    (denies (W 9) Store ∷ denies (F 1) Store ∷ [])
unfolding opened
latest-orders = (refl, refl)

-- of the checkpoint: observe's 2 behind 5, Same and 6; at's behind 17 and 18, before 15; current doesn't read it
pub checkpoint-orders :
    AlarmStores (alarms 1 9 (90 ∷ w 9 ∷ []) (table_of (9 ∷ []) (90 ∷ []) (w 9 ∷ [])) twice)
    (denies (W 16777216) Kind
    ∷ same (W 9)
    ∷ denies (W 5) Store
    ∷ refuses "/current?at=8" Late
    ∷ refuses "/current?at=10" Early
    ∷ refuses_in 3 "/current?at=9" Store
    ∷ shows "/current" (1 ∷ 9 ∷ 9 ∷ 10 ∷ 9 ∷ 90 ∷ w 9 ∷ []) ∷ [])
    × AlarmStores (alarms 1 9223372036854775807 (90 ∷ w 9 ∷ []) (table_of (9 ∷ []) (90 ∷ []) (w 9 ∷ [])) twice)
    (denies (W 5) Spent ∷ [])
unfolding opened
checkpoint-orders = (refl, refl)

-- nothing else is tested. One row: another item's Warning, level 3, an event, all bits: none is active or Unavailable
pub one-row :
    EachGives (λ t. alarms 1 9 (90 ∷ w 9 ∷ []) t t)
    (map (λ x. table_of (99 ∷ []) (0 ∷ []) (x ∷ []))
    (on 1 (w 5) ∷ 12935233541 ∷ 8606711813 ∷ 18446744073709551615 ∷ []))
    (same (Z 5)
    ∷ same (Z 0)
    ∷ shows "/current?at=9" (1 ∷ 9 ∷ 9 ∷ 10 ∷ 9 ∷ 90 ∷ w 9 ∷ [])
    ∷ takes 10 (W 5) ∷ [])
    × AlarmStores (alarms 1 9 (90 ∷ w 9 ∷ []) (table_of (99 ∷ []) (0 ∷ []) (1099511627776 ∷ [])) none)
    (shows "/current" (1 ∷ 9 ∷ 9 ∷ 10 ∷ 99 ∷ 0 ∷ 1099511627776 ∷ [])
    ∷ takes 10 Unavailable
    ∷ shows "/current" (1 ∷ 10 ∷ 10 ∷ 11 ∷ 10 ∷ 100 ∷ 0 ∷ []) ∷ [])
unfolding opened
one-row = (refl, refl)

-- numbers that fall, one above last, times of any size
pub numbers-untested :
    AlarmStores
    (alarms 1 9 (90 ∷ w 9 ∷ [])
    (table_of (99 ∷ 2 ∷ []) (0 ∷ 18446744073709551615 ∷ []) (w 1 ∷ f 2 ∷ []))
    (table_of (99 ∷ 2 ∷ []) (0 ∷ 18446744073709551615 ∷ []) (w 1 ∷ f 2 ∷ [])))
    (shows "/current" (2 ∷ 9 ∷ 9 ∷ 10 ∷ 99 ∷ 2 ∷ 0 ∷ w 1 ∷ 18446744073709551615 ∷ f 2 ∷ [])
    ∷ shows "/current?at=9" (3 ∷ 9 ∷ 9 ∷ 10 ∷ 99 ∷ 2 ∷ 9 ∷ 0 ∷ w 1 ∷ 18446744073709551615 ∷ f 2 ∷ 90 ∷ w 9 ∷ [])
    ∷ takes 10 (F 1)
    ∷ shows "/current" (2 ∷ 10 ∷ 10 ∷ 11 ∷ 10 ∷ 2 ∷ 100 ∷ f 1 ∷ 18446744073709551615 ∷ f 2 ∷ []) ∷ [])
unfolding opened
numbers-untested = refl

-- the ring's number 9 over a checkpoint of W 1, by at and by what overwrites it: a level 3 and an event clear all, a
-- Normal of another code nothing
abbrev word_read : ℕ → Stores
word_read x =
    alarms 1 9 (90 ∷ x ∷ []) (table_of (9 ∷ []) (90 ∷ []) (w 9 ∷ [])) (table_of (2 ∷ []) (20 ∷ []) (w 1 ∷ []))

abbrev word_gone : ℕ → ℕ → ℕ → Stores
word_gone n t x =
    alarms 1 10 (100 ∷ w 5 ∷ []) (table_of (9 ∷ 10 ∷ []) (90 ∷ 100 ∷ []) (w 9 ∷ w 5 ∷ []))
    (table_of (n ∷ []) (t ∷ []) (x ∷ []))

pub ring-words :
    AlarmStores (word_read 12935233541) (shows "/current?at=9" (1 ∷ 9 ∷ 9 ∷ 10 ∷ 9 ∷ 90 ∷ 12935233541 ∷ []) ∷ [])
    × AlarmStores (word_read 8606711813) (shows "/current?at=9" (1 ∷ 9 ∷ 9 ∷ 10 ∷ 9 ∷ 90 ∷ 8606711813 ∷ []) ∷ [])
    × AlarmStores (word_read (z 7)) (shows "/current?at=9" (1 ∷ 9 ∷ 9 ∷ 10 ∷ 2 ∷ 20 ∷ w 1 ∷ []) ∷ [])
    × Leaves (word_read 12935233541) (takes 10 (W 5) ∷ []) (word_gone 9 90 12935233541)
    × Leaves (word_read 8606711813) (takes 10 (W 5) ∷ []) (word_gone 9 90 8606711813)
    × Leaves (word_read (z 7)) (takes 10 (W 5) ∷ []) (word_gone 2 20 (w 1))
unfolding opened
ring-words = (refl, refl, refl, refl, refl, refl)

-- ---- nine entries

-- the checkpoint has the codes 1 to 8, number 10 is Warning 9; with Fault 8 there they stay eight
pub nine-codes :
    AlarmStores (alarms 1 10 (100 ∷ w 9 ∷ []) (table_of (10 ∷ []) (100 ∷ []) (w 9 ∷ [])) eight_warnings)
    (same (W 9)
    ∷ denies (W 5) Store
    ∷ refuses "/current?at=10" Store
    ∷ refuses_in 3 "/current?at=10" Store
    ∷ shows "/current" (1 ∷ 10 ∷ 10 ∷ 11 ∷ 10 ∷ 100 ∷ w 9 ∷ []) ∷ [])
    × AlarmStores (alarms 1 10 (100 ∷ f 8 ∷ []) (table_of (10 ∷ []) (100 ∷ []) (f 8 ∷ [])) eight_warnings)
    (takes 11 (W 5) ∷ [])
unfolding opened
nine-codes = (refl, refl)

-- Unavailable behind it: at that number they are still nine
pub nine-stay :
    AlarmStores
    (alarms 2 11 (110 ∷ 100 ∷ 0 ∷ w 9 ∷ []) (table_of (11 ∷ []) (110 ∷ []) (0 ∷ [])) eight_warnings)
    (refuses "/current?at=10" Store
    ∷ refuses "/current?at=11" Store
    ∷ denies (W 5) Store
    ∷ shows "/current" (1 ∷ 10 ∷ 11 ∷ 12 ∷ 11 ∷ 110 ∷ 0 ∷ []) ∷ [])
unfolding opened
nine-stay = refl

-- eight stand; the entry about to be overwritten has item 1, which isn't in the model: Same, 19 and 6 before its 2
pub entry-orders :
    AlarmStores (alarms 1 9 (90 ∷ on 1 (w 8) ∷ []) eight_warnings none)
    (same (W 8) ∷ denies (W 9) Crowded ∷ denies (F 8) Store ∷ denies (Z 8) Store ∷ [])
    × AlarmStores (alarms 1 9223372036854775807 (90 ∷ on 1 (w 8) ∷ []) eight_warnings none)
    (same (W 8) ∷ denies (W 9) Crowded ∷ denies (F 8) Spent ∷ denies (Z 8) Spent ∷ [])
unfolding opened
entry-orders = (refl, refl)

-- ---- two condition items, item 1 below Axis; N 1

abbrev pair_model : List ℕ
pair_model = 2 ∷ 2 ∷ 0 ∷ 1 ∷ 131074 ∷ 131330 ∷ []

abbrev pair_names : List ℕ
pair_names = cells_of (bytes "Device" ∷ bytes "Axis" ∷ bytes "LOAD" ∷ [])

-- number 9 is Warning 3 of item 1. Item 0's rows have a code twice, in both tables; item 1's latest is that Warning
abbrev pair_store : List ℕ
pair_store =
    1 ∷ 2 ∷ 1 ∷ 9 ∷ 90 ∷ on 1 (w 3)
    ∷ (pad 8 (2 ∷ 3 ∷ []) ++ (pad 8 (9 ∷ [])
    ++ (pad 8 (20 ∷ 30 ∷ []) ++ (pad 8 (90 ∷ [])
    ++ (pad 8 (w 1 ∷ f 1 ∷ []) ++ (pad 8 (on 1 (w 3) ∷ [])
    ++ (pad 8 (2 ∷ 3 ∷ []) ++ (pad 8 []
    ++ (pad 8 (20 ∷ 30 ∷ []) ++ (pad 8 []
    ++ (pad 8 (w 1 ∷ f 1 ∷ []) ++ pad 8 [])))))))))))

-- an item that isn't selected is not tested; nor by observes of the other
pub others-untested :
    StoresGive pair_model pair_names (record { observations = pair_store; assets = no_assets })
    (refuses "/current" Store
    ∷ refuses "/current?at=9" Store
    ∷ shows "/current?path=//Axis" (1 ∷ 9 ∷ 9 ∷ 10 ∷ 9 ∷ 90 ∷ on 1 (w 3) ∷ [])
    ∷ shows "/current?at=9&path=//Axis" (1 ∷ 9 ∷ 9 ∷ 10 ∷ 9 ∷ 90 ∷ on 1 (w 3) ∷ [])
    ∷ denies (W 5) Store
    ∷ Call.observe 1 100 0 (W 5) gives observed (Ok (Recorded 10))
    ∷ shows "/current?path=//Axis"
    (2 ∷ 10 ∷ 10 ∷ 11 ∷ 9 ∷ 10 ∷ 90 ∷ on 1 (w 3) ∷ 100 ∷ on 1 (w 5) ∷ []) ∷ [])
unfolding opened
others-untested = refl

-- ---- an item of each category, the condition among them; N 2

abbrev all_model : List ℕ
all_model = 1 ∷ 5 ∷ 0 ∷ 1 ∷ 65537 ∷ 131073 ∷ 196609 ∷ 262145 ∷ []

-- a table whose words are 99 but for item 0's first row and the condition's rows
abbrev all_column : ℕ → List ℕ → List ℕ
all_column x xs = x ∷ (replicate 15 99 ++ (pad 8 xs ++ replicate 16 99))

abbrev all_table : ℕ → ℕ → ℕ → List ℕ → List ℕ → List ℕ → List ℕ
all_table n t x ns ts xs = all_column n ns ++ (all_column t ts ++ all_column x xs)

abbrev all_stores : List ℕ → List ℕ → List ℕ → Stores
all_stores front latest checkpoint = record { observations = front ++ (latest ++ checkpoint); assets = no_assets }

-- number 8 is item 0's sample 5, number 9 item 2's Warning 9; behind 8 Warning 1 and Fault 2 stand, behind 9 all three
abbrev all : Stores
all =
    all_stores (2 ∷ 5 ∷ 1 ∷ 9 ∷ 90 ∷ 80 ∷ on 2 (w 9) ∷ 4294967301 ∷ [])
    (all_table 8 80 4294967301 (3 ∷ 4 ∷ 9 ∷ []) (30 ∷ 40 ∷ 90 ∷ [])
    (on 2 (w 1) ∷ on 2 (f 2) ∷ on 2 (w 9) ∷ []))
    (all_table 99 99 99 (3 ∷ 4 ∷ []) (30 ∷ 40 ∷ []) (on 2 (w 1) ∷ on 2 (f 2) ∷ []))

-- the others' rows are never tested: current and at show their first ones, observe and store-asset add to them
pub categories-untested :
    StoresGive all_model alarm_names all
    (shows "/current"
    (7 ∷ 8 ∷ 9 ∷ 10 ∷ 8 ∷ 99 ∷ 3 ∷ 4 ∷ 9 ∷ 99 ∷ 99
    ∷ 80 ∷ 4294967301 ∷ 99 ∷ 99 ∷ 30 ∷ on 2 (w 1) ∷ 40 ∷ on 2 (f 2) ∷ 90 ∷ on 2 (w 9)
    ∷ 99 ∷ 99 ∷ 99 ∷ 99 ∷ [])
    ∷ shows "/current?at=8"
    (6 ∷ 8 ∷ 9 ∷ 10 ∷ 8 ∷ 99 ∷ 3 ∷ 4 ∷ 99 ∷ 99
    ∷ 80 ∷ 4294967301 ∷ 99 ∷ 99 ∷ 30 ∷ on 2 (w 1) ∷ 40 ∷ on 2 (f 2) ∷ 99 ∷ 99 ∷ 99 ∷ 99 ∷ [])
    ∷ Call.observe 0 100 0 (Sample (pos 5)) gives observed (Ok Same)
    ∷ Call.observe 0 100 0 (Sample (pos 6)) gives observed (Ok (Recorded 10))
    ∷ Call.observe 1 110 0 (Event 7) gives observed (Ok (Recorded 11))
    ∷ Call.observe 4 120 0 (Event 7) gives observed (Ok (Recorded 12))
    ∷ stores (bytes "a") (5 ∷ []) (Ok 0) ∷ [])
unfolding opened
categories-untested = refl

-- a sample's first row takes the observation, and its checkpoint's the one that is overwritten; the rows behind stay
pub first-row-alone :
    (stores_after all_model alarm_names all (Call.observe 0 100 0 (Sample (pos 6)) ∷ [])).observations
    ≡ (all_stores (2 ∷ 5 ∷ 1 ∷ 10 ∷ 90 ∷ 100 ∷ on 2 (w 9) ∷ 4294967302 ∷ [])
    (all_table 10 100 4294967302 (3 ∷ 4 ∷ 9 ∷ []) (30 ∷ 40 ∷ 90 ∷ [])
    (on 2 (w 1) ∷ on 2 (f 2) ∷ on 2 (w 9) ∷ []))
    (all_table 8 80 4294967301 (3 ∷ 4 ∷ []) (30 ∷ 40 ∷ []) (on 2 (w 1) ∷ on 2 (f 2) ∷ []))
    ).observations
unfolding opened
first-row-alone = refl

-- the condition's checkpoint has a code twice. Number 10 overwrites the sample; each call that needs number 11, which
-- overwrites the condition, gets 2, store-asset too
pub checkpoint-by-event :
    StoresGive all_model alarm_names
    (all_stores (2 ∷ 5 ∷ 1 ∷ 9 ∷ 90 ∷ 80 ∷ on 2 (w 9) ∷ 4294967301 ∷ [])
    (all_table 8 80 4294967301 (9 ∷ []) (90 ∷ []) (on 2 (w 9) ∷ []))
    (all_table 99 99 99 (3 ∷ 4 ∷ []) (30 ∷ 40 ∷ []) (on 2 (w 1) ∷ on 2 (f 1) ∷ [])))
    (stores (bytes "a") (5 ∷ []) (Ok 0)
    ∷ stores (bytes "a") (5 ∷ []) (Err Store)
    ∷ Call.observe 1 110 0 (Event 7) gives observed (Err Store) ∷ [])
unfolding opened
checkpoint-by-event = refl
