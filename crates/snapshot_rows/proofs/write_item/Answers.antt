use native.Mathlib.Nat.{add_assoc}
use Rattle.rows.proofs.Flat.{left-more, left_end}
use Rattle.snapshot_rows.proofs.Laws.{rows_more, rows_end}
use Rattle.snapshot_rows.proofs.write_item.Goals as goal

pub loop-j-preserved : goal.loop-j-preserved
loop-j-preserved c =
    rw (← add_assoc c.args.done c.loop-j.j 1)
    (left-more c.loop-j.invariant
    (rows_more _ _ _ _ c.used-used.result.now _ c.loop-j-test.true c.place_in-place.ensures)
    (rw (← c.row_of-row.ensures) at c.write_row_of.ensures))

pub returns-clause-out_after : goal.returns-clause-out_after
returns-clause-out_after c = (left_end c.loop-j.invariant (rows_end _ _ _ _ _ _ c.loop-j-test.false)).1
