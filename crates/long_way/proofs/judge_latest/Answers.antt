-- A condition item's entries are judged; of another the word is new.
use mathlib.Core.Path.{◌∙◌}
use Rattle.spec.specs.Model.{category}
use Rattle.spec.proofs.Words.{told}
use Rattle.long_way.proofs.Laws.{found-entries}
use Rattle.long_way.proofs.judge_latest.Goals as goal

pub returns-then-category-ne-CONDITION : goal.returns-then-category-ne-CONDITION
returns-then-category-ne-CONDITION c =
    c.requires.new_if_plain (λ e. c.if-category-ne-CONDITION.true (c.category.ensures ∙ e))

pub returns : goal.returns
returns c =
    let table = rw c.args.source.agree at c.latest.ensures in
    found-entries (category c.args.source.model.now) _ _ _ _ _ _ _ table.rows table.at
    (told c.category.ensures c.if-category-ne-CONDITION.false)
    (rw (c.of-entries.ensures, c.slice.ensures.value) at c.judge.ensures)
