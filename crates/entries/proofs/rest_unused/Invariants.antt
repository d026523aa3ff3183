-- The words of the rows passed, or-ed.
use Rattle.entries.proofs.Unused.{Ored}
use Rattle.entries.proofs.rest_unused.Given as goal

abbrev pub invariant-loop-j : goal.invariant-loop-j
invariant-loop-j l = Ored l.entries l.any l.j
