use Rattle.history.specs.Observations.{item_count}
use Rattle.spec.specs.Words.{bit}
use Rattle.rows.proofs.Flat.{FlatWriting}
use Rattle.snapshot_rows.specs.Held.{marked_rows}
use Rattle.snapshot_rows.proofs.write_held.Given as goal

abbrev pub invariant-loop-i : goal.invariant-loop-i
invariant-loop-i l =
    FlatWriting (bit l.selection) (marked_rows (item_count l.st) l.st l.f l.marks) (item_count l.st) l.k l.initial.out l.out l.c l.i
