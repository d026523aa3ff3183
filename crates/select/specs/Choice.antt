-- The two forms of a path as one test of an item, and the bound of what a path selects.
use Rattle.std.specs.Prelude.{ℕ, ◌^◌, ◌<◌, Bool, true, ◌&&◌, List, Option, Some, None, option_map}
use Rattle.std.proofs.Common.{Bor}
use Rattle.spec.specs.Words.{bit}
use Rattle.spec.specs.Model.{component_of, item_name, item_word}
use Rattle.spec.specs.Path.{is_named, select_subtree, select_typed}

-- an item type, or that none was given
abbrev pub type_given : Option (Bor (List ℕ)) → Option (List ℕ)
type_given o = option_map (λ y. y.now) o

-- an item name is that of the type, where one is given
abbrev pub of_type : List ℕ → ℕ → Option (List ℕ) → Bool
of_type names k (Some y) = is_named names k y
of_type names k None = true

-- an item, by its word, is of a component in the set and, where one is given, of item type y
unfoldable pub taken : List ℕ → ℕ → Option (List ℕ) → ℕ → Bool
taken names set y word = bit set (component_of word) && of_type names (item_name word) y

-- item j is
unfoldable pub chosen : List ℕ → List ℕ → ℕ → Option (List ℕ) → ℕ → Bool
chosen model names set y j = taken names set y (item_word model j)

-- what //T selects; where an item type is given, what //T//DataItem[@type="Y"] does
abbrev pub by_names : List ℕ → List ℕ → List ℕ → Option (List ℕ) → Option ℕ
by_names model names t (Some y) = select_typed model names t y
by_names model names t None = select_subtree model names t

-- a selection of m items has no bit from m on
abbrev pub SelectionFits : Option ℕ → ℕ → Type 0
SelectionFits (Some s) m = s < 2 ^ m
SelectionFits None m = Unit {0}
