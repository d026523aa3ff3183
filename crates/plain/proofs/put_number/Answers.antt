-- The ring, the latest's one row and last are written in the definition's order.
use Rattle.plain.specs.Short.{put_number}
use Rattle.plain.proofs.put_number.Goals as goal

pub returns : goal.returns
unfolding put_number
returns c =
    let latest = c.latest_table-latest.ensures in
    rw (c.set_last.ensures, c.put_row.ensures, latest.at, latest.rows, c.put_ring.ensures)
