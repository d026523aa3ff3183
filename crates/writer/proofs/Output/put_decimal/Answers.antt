use Rattle.writer.proofs.Laws.{making-last, making-room, making-more, making-all}
use native.Mathlib.Omega.{arith}
use Rattle.writer.proofs.Output.put_decimal.Goals as goal

pub loop-left-init : goal.loop-left-init
loop-left-init c =
    making-last c.args.n (omega arith)

pub overflow_sub-i : goal.overflow_sub-i
overflow_sub-i c =
    making-room c.loop-left.invariant (omega arith)

pub loop-left-preserved : goal.loop-left-preserved
loop-left-preserved c =
    making-more c.loop-left.invariant (omega arith) (omega arith)

pub returns : goal.returns
returns c =
    making-all c.loop-left.invariant (omega arith)
    c.put_bytes.ensures
