use Rattle.history.specs.Observations.{item_count}
use Rattle.snapshots.proofs.Settled.{Settling}
use Rattle.snapshots.proofs.settle.Given as goal

abbrev pub invariant-loop-i : goal.invariant-loop-i
invariant-loop-i l = Settling l.selection l.steps (item_count l.st) l.st l.seen l.initial.marks l.marks l.i
