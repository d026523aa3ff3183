-- The place is free, or the entry's item decides, and then its category.
use mathlib.Core.Path.{sym, ◌∙◌}
use Rattle.observations.proofs.Laws.{none-overwritten, some-overwritten}
use Rattle.plain.proofs.Laws.{free-place, plain-evicted}
use Rattle.plain.proofs.evict_plain.Goals as goal

pub returns-in_default : goal.returns-in_default
returns-in_default c =
    free-place _ _ _ _ _ _ (none-overwritten _ _ _ _ _ (sym c.in_default.is ∙ c.overwritten.ensures))

pub returns : goal.returns
returns c =
    let k = rw c.in_ok-category_at.was at c.category_at.ensures in
    let table = c.checkpoint_table-checkpoint.ensures in
    let there = some-overwritten _ _ _ _ _ (sym c.in-Some.is ∙ c.overwritten.ensures) in
    plain-evicted _ _ _ _ _ _ _ _ c.requires.p_value.0 there.1.1.1 _ c.item_of-item.ensures there.0 _ _ _ _ k.1
    (λ e. c.if-branch-eq-CONDITION.false (k.0 ∙ e)) (rw c.items.ensures.0 at table.rows)
    (rw c.items.ensures.0 at table.at) there.1.1.0 (rw there.1.0 at c.put_row.ensures)
