use mathlib.Core.Path.{◌∙◌}
use Rattle.observing.proofs.Laws.{taken-is}
use Rattle.observing.proofs.taken.Goals as goal

pub returns : goal.returns
returns c = c.then_some.ensures ∙ taken-is _ _ _ c.takes.ensures c.pack.ensures
