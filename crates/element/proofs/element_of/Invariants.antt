-- What is written, then what is left to write, is the element's name, and it has room.
use Rattle.element.proofs.Laws.{Named}
use Rattle.element.proofs.element_of.Given as goal

abbrev pub invariant-loop-x : goal.invariant-loop-x
invariant-loop-x l = Named l.s l.x-index l.begins l.name.items
