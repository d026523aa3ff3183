-- The parts joined.
use Rattle.components_text.proofs.Laws.{start-put}
use Rattle.components_text.proofs.put_start.Goals as goal

pub component_text-t-requires : goal.component_text-t-requires
component_text-t-requires c =
    rw (← c.d.view_is) at c.requires

pub returns : goal.returns
returns c =
    let d = c.d.inside in
    rw (← c.d.view_is)
    (start-put d.model.words d.model.names.now _ c.args.c c.component_text-t.ensures
    c.put_text.ensures c.put_text-2.ensures c.put_number.ensures c.put_bytes.ensures)
