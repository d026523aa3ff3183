-- The third word of the item's first row.
use Rattle.observations.proofs.store.Store.latest_word.Goals as goal

pub returns : goal.returns
returns c =
    rw (← c.latest.ensures.at, ← c.latest.ensures.rows, ← c.self.view_is, c.row_at.ensures)
