-- What is left of the cell, and the answer so far, decide the whole.
use Rattle.std.specs.Slice.Iter.{windows_rest, windows_size}
use Rattle.std.specs.Slice.ArrayWindows.{array_windows_parts}
use Rattle.names.proofs.CellLaws.{Pairing}
use mathlib.Core.Path.{◌≡◌}
use Rattle.names.proofs.zeros_last.Given as goal

abbrev pub invariant-loop-a : goal.invariant-loop-a
invariant-loop-a l =
    (windows_size (array_windows_parts l.a-iterator) ≡ 2)
    × Pairing l.cell l.fine (windows_rest (array_windows_parts l.a-iterator))
