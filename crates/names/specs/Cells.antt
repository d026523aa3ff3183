-- What the functions over the name cells tell each other: a cell is a name, then zeros, where every byte is of a name
-- or 0 and the zeros stand behind.
use Rattle.std.specs.Prelude.{ℕ, ◌+◌, ◌-◌, Bool, ◌&&◌, ◌||◌, not, List, eqb, length, get_or}
use Rattle.spec.specs.Words.{every}
use Rattle.spec.specs.Bytes.{name_byte}

-- a byte of a name, or 0
unfoldable pub cell_byte : ℕ → Bool
cell_byte x = name_byte x || eqb x 0

unfoldable pub cell_bytes : List ℕ → Bool
cell_bytes s = every (λ i. cell_byte (get_or s i 0)) (length s) 0

-- behind a 0 only 0
unfoldable pub follows : ℕ → ℕ → Bool
follows a b = not (eqb a 0) || eqb b 0

-- no 0 at the start, and nothing else behind a 0
unfoldable pub zeros_last : List ℕ → Bool
zeros_last s = not (eqb (get_or s 0 0) 0) && every (λ i. follows (get_or s i 0) (get_or s (i + 1) 0)) (length s - 1) 0
