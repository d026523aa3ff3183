-- As the definition says it.
use Rattle.names.specs.Cells.{cell_byte}
use Rattle.names.proofs.cell_byte.Goals as goal

pub returns : goal.returns
unfolding cell_byte
returns c =
    rw (← c.name_byte.ensures)
