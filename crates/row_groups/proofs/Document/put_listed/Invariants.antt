-- The lines of the rows before i are put, and row i stands in the group.
use Prim.Native.Nat.{◌-◌}
use Rattle.streams.specs.Groups.{group_number}
use Rattle.row_groups.proofs.Listing.{Reached}
use Rattle.row_groups.proofs.Document.put_listed.Given as goal

abbrev pub invariant-loop-i : goal.invariant-loop-i
invariant-loop-i l = Reached l.self.model l.self.names l.self.reply l.c (group_number l.g) l.initial.out l.out l.i

abbrev pub decreases-loop-i : goal.decreases-loop-i
decreases-loop-i l = l.k - l.i
