use mathlib.Core.Path.{refl}
use Rattle.entries.proofs.Filling.{rows-many}
use Rattle.entries.proofs.table.Entries.len.Goals as goal

pub returns : goal.returns
returns c =
    (refl, rw (← c.self.view_is) (rows-many _ _ _ 8 _))
