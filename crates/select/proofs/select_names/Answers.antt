-- One law for each way out: no such type, no item of a type that is given, and what was found.
use Rattle.select.proofs.Laws.{type-unknown, none-typed, not-typed, some-items, given-is}
use Rattle.select.specs.Choice.{type_given}
use Rattle.spec.proofs.Words.{told}
use mathlib.Core.Path.{sym, ◌∙◌}
use Rattle.select.proofs.select_names.Goals.{else-is_some-via-then-is_some+else-is_empty-2, else-is_some-via-else-is_some}
use Rattle.select.proofs.select_names.Goals as goal

pub returns-then-is_empty : goal.returns-then-is_empty
returns-then-is_empty c =
    let a = c.args in
    type-unknown a.model.now.words a.model.now.names.now a.t.now _ c.under_type-set.ensures (type_given a.y)
    (told c.is_empty.ensures c.if-is_empty.true)

pub returns-then-is_empty-2 : goal.returns-then-is_empty-2
returns-then-is_empty-2 c =
    let a = c.args in
    none-typed a.model.now.words a.model.now.names.now a.t.now _ c.under_type-set.ensures
    (told c.is_empty.ensures c.if-is_empty.false) _ (type_given a.y)
    c.items_of-selection.ensures (given-is a.y ∙ sym c.is_some.ensures ∙ c.if-is_some.true)
    (told c.is_empty-then-is_some.ensures c.if-is_empty-2.true)

pub returns : goal.returns
returns c =
    let a = c.args in
    elim c.else-is_some.branch [
      | else-is_some-via-then-is_some+else-is_empty-2 w ↦
          some-items a.model.now.words a.model.now.names.now a.t.now _ c.under_type-set.ensures
          (told c.is_empty.ensures c.if-is_empty.false) _ (type_given a.y)
          c.items_of-selection.ensures (told w.is_empty-then-is_some.ensures w.if-is_empty-2.false)
      | else-is_some-via-else-is_some w ↦
          not-typed a.model.now.words a.model.now.names.now a.t.now _ c.under_type-set.ensures
          (told c.is_empty.ensures c.if-is_empty.false) _ (type_given a.y)
          c.items_of-selection.ensures (given-is a.y ∙ sym c.is_some.ensures ∙ w.if-is_some.false)
    ]
