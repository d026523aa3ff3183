-- Marks: an item's eight entries by place and key.
use Rattle.std.specs.Prelude.{ℕ, suc, ◌+◌, ◌*◌, ◌/◌, ◌%◌, ◌^◌, cond, List, [], ◌∷◌, eqb, length, take, drop, get_or}
use Rattle.std.specs.Prelude.{Option, Some, None, nat_lt}
use Rattle.spec.specs.Entries.{active, code_field}

-- the key of a packed word of the item own: 0 where it isn't active, else its code and 1
unfoldable pub key_of : ℕ → ℕ → ℕ
key_of own word = cond (active own word) (suc (code_field word)) 0

-- a mark, its place and its key
abbrev pub mark_of : ℕ → ℕ → ℕ
mark_of place key = place * 2 ^ 32 + key

abbrev pub place_in : ℕ → ℕ
place_in mark = mark / 2 ^ 32

abbrev pub key_in : ℕ → ℕ
key_in mark = mark % 2 ^ 32

-- eight words from word k on
abbrev pub eight_at : {A : Type 0} → List A → ℕ → List A
eight_at l k = take 8 (drop k l)

-- item i's eight marks, among those of all items
abbrev pub eight_of : List (List ℕ) → ℕ → List ℕ
eight_of l i = get_or l i []

-- the place of the first mark that has the key; how many there are, where none has it
unfoldable pub key_place : ℕ → List ℕ → ℕ
key_place key [] = 0
key_place key (x ∷ xs) =
    let j = key_place key xs in
    cond (eqb (key_in x) key) 0 (suc j)

-- of the first that is 0
unfoldable pub free_place : List ℕ → ℕ
free_place [] = 0
free_place (x ∷ xs) =
    let j = free_place xs in
    cond (eqb x 0) 0 (suc j)

-- the place for a key: of the mark that has it or, where none has, of the first that is 0
unfoldable pub place_of : ℕ → List ℕ → ℕ
place_of key ms = cond (nat_lt (key_place key ms) (length ms)) (key_place key ms) (free_place ms)

-- the same place, where there is one
unfoldable pub found_at : ℕ → List ℕ → Option ℕ
found_at key ms = cond (nat_lt (place_of key ms) (length ms)) (Some (place_of key ms)) None
