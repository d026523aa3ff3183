use native.Mathlib.Omega.{arith}
use Rattle.asset_reply.proofs.Laws.{filling-none, filling_more, filling-end, length-down, down-at}
use Rattle.asset_reply.proofs.write_used.Goals as goal

pub loop-i-init : goal.loop-i-init
loop-i-init c =
    filling-none _ _ _ _

pub loop-i-preserved : goal.loop-i-preserved
loop-i-preserved c =
    filling_more c.loop-i.invariant (length-down _) (omega arith) _ _ (down-at _ _ (omega arith)) c.length_at.ensures.value

pub returns : goal.returns
returns c =
    filling-end c.loop-i.invariant (length-down _) (omega arith)
