use Rattle.snapshot_rows.proofs.Laws.{Counting}
use Rattle.snapshot_rows.proofs.count.Given as goal

abbrev pub invariant-loop-i : goal.invariant-loop-i
invariant-loop-i l = Counting l.m l.selection l.marks l.k l.i
