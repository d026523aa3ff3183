-- A refusal is found.
use mathlib.Core.Path.{refl}
use Rattle.spec.proofs.Refused.{handed-on}
use Rattle.long_way.proofs.Laws.{broken-observed}
use Rattle.long_way.proofs.observe_long.Goals as goal

pub returns-in_err-found : goal.returns-in_err-found
returns-in_err-found c =
    rw (broken-observed _ _ _ _ _ _ _ (rw c.of_model-before.ensures.0 at c.in_err-found.ensures), handed-on _ c.from_residual.ensures.1 refl) (refl, refl)
