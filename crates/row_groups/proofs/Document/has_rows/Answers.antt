-- The marks are those of the reply's rows.
use mathlib.Core.Path.{◌∙◌}
use Rattle.row_groups.proofs.Laws.{marks-any}
use Rattle.row_groups.proofs.Document.has_rows.Goals as goal

pub returns : goal.returns
returns c =
    let i = c.self.invariant in
    rw (← c.self.view_is)
    (c.has_rows.ensures ∙ marks-any _ _ _ i.documented.checked i.documented.accepted i.marked c.args.c)
