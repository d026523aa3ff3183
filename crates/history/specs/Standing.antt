-- Conditions standing on an item, from the whole record: Req 05, for the reference model.
use Rattle.std.specs.Prelude.{ℕ, Bool, true, false, cond, ◌&&◌, ◌||◌, not, List, [], ◌∷◌, ◌++◌, map, leb, eqb, length}
use Rattle.spec.specs.Words.{bit}
use Rattle.spec.specs.Blocks.{flat_rows}
use Rattle.history.specs.Recorded.{Observation, keep, newest, triple, eq_value}
use Rattle.spec.specs.declared.Level.{Level}
use Rattle.spec.specs.declared.Level.TheVariants.{Normal, Warning, Fault}
use Rattle.spec.specs.declared.Value.{Value}
use Rattle.spec.specs.declared.Value.TheVariants.{Unavailable, Sample, Event, Condition}

-- ---- values

-- Warning or Fault
abbrev pub raised : Level → Bool
raised Normal = false
raised Warning = true
raised Fault = true

abbrev pub is_standing : Value → Bool
is_standing Unavailable = false
is_standing (Sample x) = false
is_standing (Event c) = false
is_standing (Condition l c) = raised l

-- a condition of code c
abbrev pub of_code : ℕ → Value → Bool
of_code c Unavailable = false
of_code c (Sample x) = false
of_code c (Event d) = false
of_code c (Condition l d) = eqb d c

abbrev pub stands_as : ℕ → Value → Bool
stands_as c v = is_standing v && of_code c v

-- ---- what stands, in the order added

-- code c stands in S
unfoldable pub stands_in : ℕ → List Observation → Bool
stands_in c [] = false
stands_in c (x ∷ S) = stands_as c x.value || stands_in c S

-- o replaces the entry of its code c or is added at the end
unfoldable pub with_entry : ℕ → Observation → List Observation → List Observation
with_entry c o S = cond (stands_in c S) (map (λ x. cond (stands_as c x.value) o x) S) (S ++ (o ∷ []))

-- Normal 0 and Unavailable clear all, Normal c that code; what no condition item takes counts as Unavailable
abbrev pub by_level : List Observation → Observation → Level → ℕ → List Observation
by_level S o Normal c = cond (eqb c 0) [] (keep (λ x. not (stands_as c x.value)) S)
by_level S o Warning c = with_entry c o S
by_level S o Fault c = with_entry c o S

abbrev pub by_value : List Observation → Observation → Value → List Observation
by_value S o Unavailable = []
by_value S o (Sample x) = []
by_value S o (Event c) = []
by_value S o (Condition l c) = by_level S o l c

abbrev pub step_value : List Observation → Observation → List Observation
step_value S o = by_value S o o.value

-- item i's, behind H, where S stood before
unfoldable pub standing_from : List Observation → ℕ → List Observation → List Observation
standing_from S i [] = S
standing_from S i (o ∷ H) = standing_from (cond (eqb o.item i) (step_value S o) S) i H

abbrev pub standing : ℕ → List Observation → List Observation
standing i H = standing_from [] i H

-- ---- an item's entries: what current shows of H, and at of a part of it

-- an observation, if there is one
abbrev pub found : Observation → List Observation
found o = cond (eqb o.number 0) [] (o ∷ [])

-- what stands or, with none standing, the newest
abbrev pub shown : List Observation → Observation → List Observation
shown [] o = found o
shown (x ∷ S) o = x ∷ S

-- of a condition item; of another, its newest
unfoldable pub entries_of : ℕ → ℕ → List Observation → List Observation
entries_of category i H = cond (eqb category 2) (shown (standing i H) (newest i H)) (found (newest i H))

-- the selected items' in G: current shows H, at a part of it
unfoldable pub entries_rows : (ℕ → ℕ) → ℕ → ℕ → List Observation → List (List ℕ)
entries_rows cat m selection G = flat_rows (bit selection) (λ i. map triple (entries_of (cat i) i G)) m 0

-- ---- Same, and 19 (crowded), of a condition item

-- its level stands for its code
unfoldable pub level_stands : Value → List Observation → Bool
level_stands v [] = false
level_stands v (x ∷ S) = eq_value x.value v || level_stands v S

abbrev pub nothing_stands : List Observation → Bool
nothing_stands [] = true
nothing_stands (x ∷ S) = false

abbrev pub same_level : List Observation → Value → Level → ℕ → Bool
same_level S newest Normal c = cond (eqb c 0) (nothing_stands S && not (eq_value newest Unavailable)) (not (stands_in c S))
same_level S newest Warning c = level_stands (Condition Warning c) S
same_level S newest Fault c = level_stands (Condition Fault c) S

-- what stands, the item's newest value, the value offered
abbrev pub same_standing : List Observation → Value → Value → Bool
same_standing S newest Unavailable = eq_value newest Unavailable
same_standing S newest (Sample x) = eq_value newest (Sample x)
same_standing S newest (Event c) = eq_value newest (Event c)
same_standing S newest (Condition l c) = same_level S newest l c

-- a ninth code
abbrev pub crowded_standing : List Observation → Value → Bool
crowded_standing S Unavailable = false
crowded_standing S (Sample x) = false
crowded_standing S (Event c) = false
crowded_standing S (Condition l c) = raised l && (not (stands_in c S) && leb 8 (length S))
