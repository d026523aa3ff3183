-- The line of the row that is read.
use Rattle.spec.specs.Model.{item_word, item_name}
use Rattle.streams.proofs.Rows.{row_at}
use Rattle.row_groups.proofs.Laws.{own-item, row-put, name-few}
use Rattle.row_groups.proofs.Document.put_row.Goals as goal

-- the row's item is one of the model's
pub item_text-t-requires : goal.item_text-t-requires
item_text-t-requires c =
    let d = c.self.inside in
    own-item d.model.words d.reply c.args.i c.row_at-row.ensures.packed c.item_of.ensures
    c.self.invariant.documented.accepted (rw (← c.self.view_is) at c.requires)

pub put_group_row-requires : goal.put_group_row-requires
put_group_row-requires c =
    let d = c.self.inside in
    name-few d.model.names.now (item_name (item_word d.model.words c.item_of.result)) c.item_text-t.ensures

pub returns : goal.returns
returns c =
    let d = c.self.inside in
    let row = c.row_at-row.ensures in
    rw (← c.self.view_is)
    (row-put d.model.words d.model.names.now _ (row_at d.reply c.args.i) _ _ _ _ _ c.item_text-t.ensures
    c.item_of.ensures row.number row.time row.packed c.put_group_row.ensures)
