-- The marks are those of the first i rows.
use mathlib.Core.List.{map}
use lib.ListN.{take}
use Rattle.spec.specs.Reply.{rows_of}
use Rattle.streams.specs.Streams.{row_in}
use Rattle.row_groups.specs.Groups.{Marked}
use Rattle.row_groups.proofs.groups_present.Given as goal

abbrev pub invariant-loop-i : goal.invariant-loop-i
invariant-loop-i l = Marked l.model (map row_in (take l.i (rows_of l.reply))) l.present
