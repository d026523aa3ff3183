-- The change is Full exactly where the step has nine.
use Rattle.std.proofs.Common.{rules}
use Rattle.stepping.proofs.Laws.{takes-tested}
use Rattle.stepping.proofs.takes_one.Goals as goal

pub returns : goal.returns
returns c = takes-tested _ _ _ _ c.fill.ensures _ _ c.is_some_and.ensures (λ x h. search rules)
