-- The answer so far and the bytes from the next on decide the blocks.
use Rattle.names.specs.Cells.{cell_byte, cell_bytes}
use Rattle.spec.specs.Words.{every}
use mathlib.Core.Bool.{◌&&◌}
use lib.ListN.{length, get_or}
use Prim.Native.Nat.{◌-◌}
use mathlib.Core.Path.{◌≡◌}
use Rattle.names.proofs.blocks_ok.Given as goal

abbrev pub invariant-loop-x : goal.invariant-loop-x
invariant-loop-x l =
    cell_bytes l.x-items
    ≡ (l.fine && every (λ k. cell_byte (get_or l.x-items k 0)) (length l.x-items - l.x-index) l.x-index)
