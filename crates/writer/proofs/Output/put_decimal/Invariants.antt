-- The digits made so far stand at the end of the twenty. The measure is what is left of n.
use Rattle.writer.proofs.Laws.{Making}
use Rattle.writer.proofs.Output.put_decimal.Given as goal

abbrev pub invariant-loop-left : goal.invariant-loop-left
invariant-loop-left l = Making l.n l.digits l.i l.left

abbrev pub decreases-loop-left : goal.decreases-loop-left
decreases-loop-left l = l.left
