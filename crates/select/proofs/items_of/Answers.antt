use Rattle.select.proofs.Laws.{set_room, set-down, set-whole}
use native.Mathlib.Omega.{arith}
use Rattle.select.proofs.items_of.Goals as goal

pub moved_up-selection-requires : goal.moved_up-selection-requires
moved_up-selection-requires c =
    let l = c.loop-j in
    set_room _ _ _ _ l.invariant (omega arith) (omega arith)

pub loop-j-preserved : goal.loop-j-preserved
loop-j-preserved c =
    set-down _ _ _ _ c.loop-j.invariant (omega arith) _ _ c.takes.ensures c.moved_up-selection.ensures

pub returns : goal.returns
returns c = set-whole _ _ _ _ c.loop-j.invariant (omega arith)
