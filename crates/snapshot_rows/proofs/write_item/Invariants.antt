-- The invariant: the rows of the used marks before the j-th are written.
use Prim.Native.Nat.{◌+◌}
use Rattle.history.specs.Observations.{item_count}
use Rattle.rows.proofs.Flat.{Left}
use Rattle.snapshot_rows.specs.Held.{eight_rows}
use Rattle.snapshot_rows.proofs.Laws.{rows_from}
use Rattle.snapshot_rows.proofs.write_item.Given as goal

abbrev pub invariant-loop-j : goal.invariant-loop-j
invariant-loop-j l =
    Left (eight_rows (item_count l.st) l.st l.f l.i l.eight) l.k l.done l.initial.out l.out (l.done + l.j)
    (rows_from (item_count l.st) l.st l.f l.i l.used l.j)
