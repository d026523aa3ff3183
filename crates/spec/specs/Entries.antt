-- The entries of a condition item: Req 05, over words. An entry is a row (number, time, packed word); `own` is the
-- item field that the item's packed words have. Entries are in the order added.
use Rattle.std.specs.Prelude.{ℕ, ◌/◌, ◌%◌, ◌^◌, Bool, true, false, cond, ◌&&◌, ◌||◌, not, List, [], ◌∷◌, leb, ltb, eqb, length, get_or, drop}
use Rattle.spec.specs.Value.{item_of, pack}
use Rattle.spec.specs.declared.Value.TheVariants.{Unavailable}

-- ---- fields of a packed word

-- the item field of item i's packed words
abbrev pub own_of : ℕ → ℕ
own_of i = i

abbrev pub kind_field : ℕ → ℕ
kind_field word = word / 2 ^ 32 % 256

abbrev pub level_field : ℕ → ℕ
level_field word = word / 2 ^ 24 % 256

abbrev pub code_field : ℕ → ℕ
code_field word = word % 2 ^ 24

-- Warning or Fault of the item
unfoldable pub active : ℕ → ℕ → Bool
active own word =
    eqb (item_of word) own && (eqb (kind_field word) 3 && (eqb (level_field word) 1 || eqb (level_field word) 2))

-- the same, of code c
abbrev pub active_as : ℕ → ℕ → ℕ → Bool
active_as own c word = active own word && eqb (code_field word) c

-- Normal
unfoldable pub normal : ℕ → Bool
normal word = eqb (kind_field word) 3 && eqb (level_field word) 0

-- ---- tests of entries

abbrev pub packed : List ℕ → ℕ
packed r = get_or r 2 0

-- p holds of the packed word of an entry; of each entry
unfoldable pub any_entry : (ℕ → Bool) → List (List ℕ) → Bool
any_entry p [] = false
any_entry p (e ∷ es) = p (packed e) || any_entry p es

unfoldable pub each_row : (List ℕ → Bool) → List (List ℕ) → Bool
each_row p [] = true
each_row p (e ∷ es) = p e && each_row p es

-- a code is active; any is
abbrev pub has_code : ℕ → ℕ → List (List ℕ) → Bool
has_code own c es = any_entry (active_as own c) es

abbrev pub any_active : ℕ → List (List ℕ) → Bool
any_active own es = any_entry (active own) es

-- a packed word is there
abbrev pub holds : ℕ → List (List ℕ) → Bool
holds word es = any_entry (λ w. eqb w word) es

-- ---- the step: what an item's entries are behind one more observation

-- r in the place of its code's entry, or behind the last
unfoldable pub entered : ℕ → List ℕ → List (List ℕ) → List (List ℕ)
entered own r [] = r ∷ []
entered own r (e ∷ es) =
    let rest = entered own r es in
    cond (active_as own (code_field (packed r)) (packed e)) (r ∷ es) (e ∷ rest)

-- without the entry of code c
unfoldable pub cleared : ℕ → ℕ → List (List ℕ) → List (List ℕ)
cleared own c [] = []
cleared own c (e ∷ es) =
    let rest = cleared own c es in
    cond (active_as own c (packed e)) es (e ∷ rest)

-- with none left, the observation alone
abbrev pub or_alone : List ℕ → List (List ℕ) → List (List ℕ)
or_alone r [] = r ∷ []
or_alone r (e ∷ es) = e ∷ es

-- where some are active: Warning or Fault, a Normal of a code, anything else
unfoldable pub step_active : ℕ → List (List ℕ) → List ℕ → List (List ℕ)
step_active own es r =
    cond (active own (packed r)) (entered own r es)
    (cond (normal (packed r) && not (eqb (code_field (packed r)) 0))
    (or_alone r (cleared own (code_field (packed r)) es))
    (r ∷ []))

-- nine entries, one too many, stay: a fold that ever has nine ends with nine
unfoldable pub step : ℕ → List (List ℕ) → List ℕ → List (List ℕ)
step own es r = cond (ltb 8 (length es)) es (cond (any_active own es) (step_active own es r) (r ∷ []))

-- ---- Same, and 19 (crowded), of a packed word

-- a Normal that clears nothing, unless it is Normal 0 after Unavailable; a level repeated for its code, or Unavailable
-- repeated: the word is there
unfoldable pub repeats_in : ℕ → List (List ℕ) → ℕ → Bool
repeats_in own es word =
    cond (normal word)
    (cond (eqb (code_field word) 0)
    (not (any_active own es) && not (holds (pack own Unavailable) es))
    (not (has_code own (code_field word) es)))
    (holds word es)

-- a ninth code
unfoldable pub crowded : ℕ → List (List ℕ) → ℕ → Bool
crowded own es word = active own word && (not (has_code own (code_field word) es) && leb 8 (length es))

-- ---- the written form of an item's rows

-- the rows in front whose number isn't 0
unfoldable pub used_rows : List (List ℕ) → List (List ℕ)
used_rows [] = []
used_rows (r ∷ rs) =
    let u = used_rows rs in
    cond (eqb (get_or r 0 0) 0) [] (r ∷ u)

abbrev pub zero_row : List ℕ → Bool
zero_row r = eqb (get_or r 0 0) 0 && (eqb (get_or r 1 0) 0 && eqb (packed r) 0)

-- all are active, with different codes
unfoldable pub codes_differ : ℕ → List (List ℕ) → Bool
codes_differ own [] = true
codes_differ own (e ∷ es) = active own (packed e) && (not (has_code own (code_field (packed e)) es) && codes_differ own es)

-- used rows first, at least `least` of them, two or more only if all are active and their codes differ; zeros behind
unfoldable pub form_ok : ℕ → ℕ → List (List ℕ) → Bool
form_ok own least rs =
    let u = used_rows rs in
    leb least (length u) && (each_row zero_row (drop (length u) rs) && (leb (length u) 1 || codes_differ own u))
