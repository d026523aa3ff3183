use Rattle.std.proofs.Common.{rules}
use mathlib.Core.Path.{sym, ◌∙◌}
use Rattle.assets.proofs.Laws.{oldest-given}
use Rattle.assets.proofs.stored.Assets.out_for.Goals as goal

pub returns-in-None : goal.returns-in-None
returns-in-None c = oldest-given _ _ (search rules) (sym c.in-None.is ∙ c.find.ensures.value) (search rules)
