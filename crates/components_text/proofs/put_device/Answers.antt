-- The parts joined.
use native.Mathlib.Omega.{arith}
use Rattle.components_text.proofs.Laws.{device-put}
use Rattle.components_text.proofs.put_device.Goals as goal

pub component_text-t-requires : goal.component_text-t-requires
component_text-t-requires c = omega (arith, c.args.model.now.checked.sizes.c_pos)

pub returns : goal.returns
returns c =
    let m = c.args.model.now in
    device-put m.words m.names.now _ c.component_text-t.ensures
    c.put_text.ensures c.put_text-2.ensures c.put_bytes.ensures
