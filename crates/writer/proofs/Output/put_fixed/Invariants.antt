-- The digits made so far stand at the end.
use Rattle.writer.proofs.Laws.{Filling}
use Rattle.writer.proofs.Output.put_fixed.Given as goal

abbrev pub invariant-loop-i : goal.invariant-loop-i
invariant-loop-i g l = Filling g.row.K l.initial.n l.digits l.i l.rest
