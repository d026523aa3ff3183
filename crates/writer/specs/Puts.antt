-- Text written into a lent buffer, which may be too short for it or empty.
use Rattle.std.specs.Prelude.{ℕ, ◌+◌, ◌^◌, ◌≤◌, min, max, ◌≡◌, List, length}
use Rattle.std.proofs.lemmas.List.Edits.{sets}
use Rattle.writer.specs.declared.Output.{Output}

-- No buffer has 2^63 bytes, so a place that stops there fits nowhere, and no sum of places wraps.
abbrev pub stop : ℕ
stop = 2 ^ 63

-- the place n bytes on
abbrev pub onward : ℕ → ℕ → ℕ
onward at n = max at (min (at + n) stop)

-- the bytes s stand in the buffer from the entry's place on, as far as it reaches, and the exit's place is the one
-- behind them; that the buffer is the same and short is said here so that what follows needs no other fact
pub record Put (entry : Output) (s : List ℕ) (exit : Output) : Type 0 where
  pub same : exit.bytes.ghost_name ≡ entry.bytes.ghost_name
  pub short : length entry.bytes.now ≤ stop
  pub stands : exit.bytes.now ≡ sets entry.bytes.now entry.at s
  pub place : exit.at ≡ onward entry.at (length s)
