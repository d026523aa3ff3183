use native.Mathlib.Omega.{arith}
use mathlib.Core.Path.{ap}
use lib.ListN.{length}
use Rattle.snapshots.proofs.begin_item.Goals as goal

pub of-entries-requires : goal.of-entries-requires
of-entries-requires c =
    let len = ap length c.slice.ensures.value in
    let head = c.slice.ensures.head in
    let table = c.checkpoint.ensures in
    record {
      inside = omega (arith, table.rows);
      room = omega (arith, len, head.head.len, table.at, table.rows);
    }

pub fill-requires : goal.fill-requires
fill-requires c =
    omega (arith, c.slice.ensures.head.few)
