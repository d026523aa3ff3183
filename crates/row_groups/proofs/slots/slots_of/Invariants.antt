-- The slots below item j are made.
use Rattle.row_groups.specs.Slots.{Slotted}
use Rattle.row_groups.proofs.slots.slots_of.Given as goal

abbrev pub invariant-loop-j : goal.invariant-loop-j
invariant-loop-j l = Slotted l.model l.j l.slots
