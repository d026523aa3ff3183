-- The lines of the first i rows are put.
use mathlib.Core.List.{map}
use lib.ListN.{take}
use Rattle.spec.specs.Reply.{rows_of}
use Rattle.streams.specs.Streams.{row_in}
use Rattle.streams.specs.Groups.{group_number}
use Rattle.writer.specs.Puts.{Put}
use Rattle.row_groups.specs.Groups.{kept_text}
use Rattle.row_groups.proofs.Document.put_searched.Given as goal

abbrev pub invariant-loop-i : goal.invariant-loop-i
invariant-loop-i l =
    Put l.initial.out
    (kept_text l.self.model l.self.names l.c (group_number l.g) (map row_in (take l.i (rows_of l.self.reply)))) l.out
