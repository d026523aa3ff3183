use Rattle.history.specs.Observations.{item_count}
use Rattle.snapshots.proofs.Begun.{Beginning}
use Rattle.snapshots.proofs.begin.Given as goal

abbrev pub invariant-loop-i : goal.invariant-loop-i
invariant-loop-i l = Beginning l.steps (item_count l.st) l.st l.initial.marks l.marks l.i
