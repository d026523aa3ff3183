-- What was read behind the point has a digit and is within its bound.
use mathlib.Core.Path.{sym, ◌∙◌}
use Rattle.forms.proofs.Laws.{numbered}
use Rattle.forms.proofs.point_form.Goals as goal

pub scaled-part-requires : goal.scaled-part-requires
scaled-part-requires c =
    let k = numbered _ _ c.args.p.now _ (sym c.number_of.ensures ∙ c.in_ok-number_of.was) in
    record { n_bound = k.small; le_digits = k.some-digit }
