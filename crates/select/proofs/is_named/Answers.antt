-- The cell begins with t, and has as many bytes of names as t has bytes.
use mathlib.Core.Path.{◌∙◌}
use Rattle.select.proofs.Laws.{named_other, named-so-far}
use Rattle.select.proofs.is_named.Goals as goal

pub returns-then-starts_with : goal.returns-then-starts_with
returns-then-starts_with c =
    let a = c.args in
    named-so-far a.cell.now a.t.now _ c.starts_with.ensures.value c.if-starts_with.true _ c.name_length.ensures.0

pub returns-else-starts_with : goal.returns-else-starts_with
returns-else-starts_with c =
    let a = c.args in
    c.if-starts_with.false
    ∙ named_other a.cell.now a.t.now _ c.starts_with.ensures.value c.if-starts_with.false
