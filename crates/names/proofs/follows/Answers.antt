-- As the definition says it.
use Rattle.names.specs.Cells.{follows}
use mathlib.Core.Path.{refl}
use Rattle.names.proofs.follows.Goals as goal

pub returns : goal.returns
unfolding follows
returns c =
    refl
