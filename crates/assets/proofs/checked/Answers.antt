use mathlib.Core.Path.{sym, ◌∙◌}
use Rattle.spec.proofs.Assets.{asset-head}
use Rattle.assets.proofs.checked.Goals as goal

pub of-requires : goal.of-requires
of-requires c =
    asset-head _ (sym c.head_ok.ensures ∙ c.if-not-head_ok.false)
