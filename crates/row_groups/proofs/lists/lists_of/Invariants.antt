-- The lists are those of the rows from i on.
use Rattle.row_groups.specs.Lists.{Listed}
use Rattle.row_groups.proofs.lists.lists_of.Given as goal

abbrev pub invariant-loop-i : goal.invariant-loop-i
invariant-loop-i l = Listed l.model l.reply l.i l.lists.first l.lists.next
