-- The category decides first.
use mathlib.Core.Path.{◌∙◌}
use borrow.Author.Tests.{eq-eqb}
use Rattle.spec.proofs.Words.{told}
use Rattle.short_way.proofs.Laws.{asked, not-asked}
use Rattle.short_way.proofs.repeats.Goals as goal

pub returns-then-category-ne-DISCRETE : goal.returns-then-category-ne-DISCRETE
returns-then-category-ne-DISCRETE c =
    asked _ _ _ (λ e. c.if-category-ne-DISCRETE.true (c.category.ensures ∙ e))
    (rw c.args.source.agree at c.latest_word.ensures)

pub returns-else-category-ne-DISCRETE : goal.returns-else-category-ne-DISCRETE
returns-else-category-ne-DISCRETE c =
    rw (eq-eqb _ 4 c.if-category-ne-DISCRETE.false)
    (not-asked _ _ _ (told c.category.ensures c.if-category-ne-DISCRETE.false))
