-- Nothing without rows; with some the start, the groups, the end.
use native.Mathlib.Omega.{arith}
use Rattle.row_groups.specs.Groups.{reply_rows}
use Rattle.components_text.proofs.Laws.{component-none, component-put}
use Rattle.components_text.proofs.put_component.Goals as goal

pub returns-then-not-has_rows : goal.returns-then-not-has_rows
returns-then-not-has_rows c =
    let d = c.args.d.now in
    component-none d.model d.names (reply_rows d.reply) c.args.c c.has_rows.ensures c.if-not-has_rows.true (omega arith)

pub returns : goal.returns
returns c =
    let d = c.args.d.now in
    component-put d.model d.names (reply_rows d.reply) c.args.c c.has_rows.ensures c.if-not-has_rows.false
    c.put_start.ensures c.put_groups.ensures c.put_bytes.ensures
