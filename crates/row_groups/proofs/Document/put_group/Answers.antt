-- Nothing without a mark; with one the start, the rows, the end.
use mathlib.Core.Path.{sym, ◌∙◌}
use native.Mathlib.Omega.{arith}
use Rattle.row_groups.specs.Groups.{reply_rows, kept}
use Rattle.streams.specs.Groups.{group_number}
use Rattle.row_groups.proofs.Laws.{group-none, group-put}
use Rattle.row_groups.proofs.Document.put_group.Goals as goal

pub returns-then-not-is_marked : goal.returns-then-not-is_marked
returns-then-not-is_marked c =
    let d = c.args.self.now in
    let g = group_number c.args.g in
    group-none d.model d.names g (kept d.model c.args.c g (reply_rows d.reply))
    (sym c.is_marked.ensures.value ∙ c.if-not-is_marked.true) (omega arith)

pub returns : goal.returns
returns c =
    let d = c.args.self.now in
    let g = group_number c.args.g in
    group-put d.model d.names g (kept d.model c.args.c g (reply_rows d.reply))
    (sym c.is_marked.ensures.value ∙ c.if-not-is_marked.false)
    c.put_tag.ensures c.put_rows.ensures c.put_tag-2.ensures
