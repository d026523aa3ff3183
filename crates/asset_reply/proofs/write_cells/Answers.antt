use mathlib.Core.Path.{refl}
use native.Mathlib.Omega.{arith}
use Rattle.asset_reply.proofs.Laws.{writing-none, writing_more, writing-end}
use Rattle.asset_reply.proofs.write_cells.Goals as goal

pub loop-i-init : goal.loop-i-init
loop-i-init c =
    writing-none _ _ _ _ c.copy_from_slice.ensures.after (omega arith)

pub loop-i-preserved : goal.loop-i-preserved
loop-i-preserved c =
    writing_more c.loop-i.invariant refl (omega arith) _ _ refl c.length_at.ensures.value

pub returns : goal.returns
returns c =
    writing-end c.loop-i.invariant refl (omega arith)
