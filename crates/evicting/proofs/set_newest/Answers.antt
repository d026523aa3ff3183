-- The category decides between the item's entries and its one row.
use Prim.Native.Nat.{◌*◌}
use mathlib.Core.Path.{ap, ◌∙◌}
use Rattle.spec.specs.Model.{category}
use Rattle.spec.proofs.Words.{told}
use Rattle.plain.proofs.Laws.{newest-row}
use Rattle.evicting.proofs.Laws.{step_fits, newest-entries}
use Rattle.evicting.proofs.set_newest.Goals as goal

pub step-requires : goal.step-requires
step-requires c =
    let whole = step_fits _ _ _ _ _ _ c.items.ensures.0 c.requires.in_table c.items.ensures.1
    (told c.category-category.ensures c.if-category-eq-CONDITION.true) in
    record { table = whole.0; own_bound = whole.1 }

pub returns-then-category-eq-CONDITION : goal.returns-then-category-eq-CONDITION
returns-then-category-eq-CONDITION c =
    newest-entries (category c.args.model.now) _ _ _ _ _ c.items.ensures.0 _ _
    (told c.category-category.ensures c.if-category-eq-CONDITION.true) c.step.ensures

pub returns-else-category-eq-CONDITION : goal.returns-else-category-eq-CONDITION
returns-else-category-eq-CONDITION c =
    newest-row (category c.args.model.now) _ _ _ _ _ (ap (λ x. 8 * x) c.items.ensures.0) _ _
    (λ e. c.if-category-eq-CONDITION.false (c.category-category.ensures ∙ e)) c.put_row.ensures
