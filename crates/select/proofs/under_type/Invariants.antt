-- The set is that of the components below i.
use Rattle.spec.specs.Path.{under}
use mathlib.Core.Path.{◌≡◌}
use Rattle.select.proofs.under_type.Given as goal

abbrev pub invariant-loop-i : goal.invariant-loop-i
invariant-loop-i l = l.set ≡ under l.model.words l.model.names.now l.t l.i
