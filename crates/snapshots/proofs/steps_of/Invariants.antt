use Rattle.spec.specs.Model.{category}
use Rattle.snapshots.specs.Snapshots.{steps_of}
use mathlib.Core.Path.{◌≡◌}
use Rattle.snapshots.proofs.steps_of.Given as goal

abbrev pub invariant-loop-i : goal.invariant-loop-i
invariant-loop-i l = l.set ≡ steps_of (category l.model) l.selection l.i
