use Prim.Native.Nat.{◌*◌}
use native.Mathlib.Nat.{add-zero}
use Rattle.history.specs.Observations.{ring_size, item_count, checkpoint_at, item_row}
use Rattle.snapshots.proofs.Settled.{place-seen, place-first}
use Rattle.snapshots.proofs.plain_place.Goals as goal

pub returns-then-seen-ne0 : goal.returns-then-seen-ne0
returns-then-seen-ne0 c =
    let r = item_row c.args.st.now (checkpoint_at (ring_size c.args.st.now) (item_count c.args.st.now))
    (item_count c.args.st.now) c.args.i in
    place-seen r _ c.if-seen-ne0.true

pub returns : goal.returns
returns c =
    let r = item_row c.args.st.now (checkpoint_at (ring_size c.args.st.now) (item_count c.args.st.now))
    (item_count c.args.st.now) c.args.i in
    place-first r _ (rw (add-zero (8 * c.args.i)) at c.checkpoint_row-row.ensures) c.if-seen-ne0.false c.from.ensures
