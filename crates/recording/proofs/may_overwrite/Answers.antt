-- The item decides first, then its category, then its checkpoint.
use mathlib.Core.Path.{sym, ◌∙◌}
use Rattle.spec.specs.Model.{category}
use Rattle.plain.proofs.Laws.{over_plain}
use Rattle.recording.proofs.Laws.{over_none, over-entries}
use Rattle.recording.proofs.may_overwrite.Goals as goal

pub returns-in-None : goal.returns-in-None
returns-in-None c =
    over_none _ _ _ _ _ _ c.item_of-item.ensures c.in-None.ensures

pub returns-in-Some-eq2 : goal.returns-in-Some-eq2
returns-in-Some-eq2 c =
    let k = c.in-Some-eq2.ensures in
    let table = rw c.args.source.agree at c.checkpoint.ensures in
    over-entries (category c.args.source.model.now) _ _ _ _ _ c.item_of-item.ensures k.1 _ _ table.rows table.at
    (sym k.0 ∙ c.in-Some-eq2.field-0-test) (rw (c.of-entries.ensures, c.slice.ensures.value) at c.takes_one.ensures)

pub returns-in-Some : goal.returns-in-Some
returns-in-Some c =
    let k = c.in-Some.ensures in
    over_plain _ _ _ _ _ _ c.item_of-item.ensures k.1 (λ e. c.in-Some.field-0-test.1 (k.0 ∙ e))
