use Rattle.history.specs.Observations.{item_count}
use Rattle.snapshot_rows.proofs.Laws.{row-table, row-ring}
use mathlib.Core.Path.{refl}
use Rattle.snapshot_rows.proofs.row_of.Goals as goal

pub returns-then-place-lt-FIRST_PLACE : goal.returns-then-place-lt-FIRST_PLACE
returns-then-place-lt-FIRST_PLACE c =
    row-table (item_count c.args.st.now) c.args.st.now c.args.f c.args.i c.args.place refl
    c.if-place-lt-FIRST_PLACE.true c.checkpoint_row.ensures

pub returns : goal.returns
returns c =
    row-ring (item_count c.args.st.now) c.args.st.now c.args.f c.args.i c.args.place c.if-place-lt-FIRST_PLACE.false
    c.ring_row.ensures
