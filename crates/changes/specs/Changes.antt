-- What one more observation does to an item's eight entries, told by their marks, and the change done to eight words.
use Rattle.std.specs.Prelude.{ℕ, suc, ◌<◌, Bool, true, false, cond, ◌&&◌, not, List, [], ◌∷◌, ◌++◌, eqb, get_or, set, take, drop, replicate}
use Rattle.spec.specs.Entries.{active, normal, code_field}
use Rattle.marks.specs.Marks.{key_in, key_of, place_of}
use Rattle.changes.specs.declared.Change.{Change}
use Rattle.changes.specs.declared.Change.TheVariants.{Put, Alone, Out, Stay, Full}

-- Warning or Fault: to its code's place, or behind the last; full with a ninth
unfoldable pub raised_for : ℕ → List ℕ → Change
raised_for key ms = cond (eqb (place_of key ms) 8) Full (Put (place_of key ms))

-- Normal of one code: its entry, if there is one, goes out; in the place of the last one, the Normal stands alone
unfoldable pub cleared_for : ℕ → List ℕ → Change
cleared_for key ms =
    cond (eqb (place_of key ms) 8) Stay
    (cond (eqb (get_or ms (place_of key ms) 0) 0) Stay
    (cond (eqb (get_or ms 1 0) 0) Alone (Out (place_of key ms))))

-- what an observation does to the entries of eight marks, by its packed word
unfoldable pub change_for : ℕ → List ℕ → ℕ → Change
change_for own ms word =
    cond (eqb (key_in (get_or ms 0 0)) 0) Alone
    (cond (active own word) (raised_for (key_of own word) ms)
    (cond (normal word && not (eqb (code_field word) 0)) (cleared_for (suc (code_field word)) ms) Alone))

-- a place of a change is one of eight
abbrev pub ChangeFits : Change → Type 0
ChangeFits (Put j) = j < 8
ChangeFits Alone = Unit {0}
ChangeFits (Out j) = j < 8
ChangeFits Stay = Unit {0}
ChangeFits Full = Unit {0}

-- eight without the one at place j, z behind them
abbrev pub without : {A : Type 0} → A → ℕ → List A → List A
without z j l = take j l ++ (drop (suc j) l ++ (z ∷ []))

-- x, and seven z
abbrev pub alone_with : {A : Type 0} → A → A → List A
alone_with z x = x ∷ replicate 7 z

-- the change done to eight, z being unused
abbrev pub changed : {A : Type 0} → A → Change → A → List A → List A
changed z (Put j) x l = set l j x
changed z Alone x l = alone_with z x
changed z (Out j) x l = without z j l
changed z Stay x l = l
changed z Full x l = l

-- the entry would be a ninth
abbrev pub is_full : Change → Bool
is_full (Put j) = false
is_full Alone = false
is_full (Out j) = false
is_full Stay = false
is_full Full = true
