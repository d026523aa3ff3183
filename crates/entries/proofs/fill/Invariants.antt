-- n of the rows before j are used and come first, their marks are made, and the rows left decide.
use Rattle.entries.proofs.Filling.{Filling}
use Rattle.entries.proofs.fill.Given as goal

abbrev pub invariant-loop-j : goal.invariant-loop-j
invariant-loop-j l = Filling l.own l.entries l.marks l.n l.j
