-- The rest of the bytes that move, written from here, gives what all of them give from the start, and those still to
-- be read stand as they stood.
use Prim.Native.Nat.{◌+◌}
use lib.ListN.{take, drop}
use Rattle.cells.proofs.Laws.{Writing}
use Rattle.cells.proofs.move_down.Given as goal

abbrev pub invariant-loop-j : goal.invariant-loop-j
invariant-loop-j l = Writing (take l.n (drop (l.at + l.gap) l.initial.bs)) l.initial.bs l.at l.bs l.j
