-- The first c components are put.
use Rattle.streams.specs.Streams.{ended}
use Rattle.writer.specs.Puts.{Put}
use Rattle.row_groups.specs.Groups.{reply_rows}
use Rattle.components_text.proofs.Laws.{first_lines}
use Rattle.components_text.proofs.put_components.Given as goal

abbrev pub invariant-loop-c : goal.invariant-loop-c
invariant-loop-c l =
    Put l.initial.out (ended (first_lines l.d.model l.d.names (reply_rows l.d.reply) l.c)) l.out
