-- A row of the table is one of the eight.
use mathlib.Core.Path.{◌∙◌}
use Rattle.entries.proofs.Filling.{row_of}
use Rattle.entries.proofs.table.Entries.row.Goals as goal

pub returns : goal.returns
returns c =
    rw (← c.self.view_is) (row_of _ _ _ 8 _ _ c.requires ∙ c.row_at.ensures)
