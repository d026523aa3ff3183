-- Once a tenth of n is less than the power, all are counted.
use native.Mathlib.Omega.{arith}
use Rattle.writer.proofs.Length.{powers-first, powers-few, powers-next, powers-last}
use Rattle.writer.proofs.decimal_length.Goals as goal

pub loop-power-init : goal.loop-power-init
loop-power-init c =
    powers-first c.args.n

pub overflow_add-more : goal.overflow_add-more
overflow_add-more c =
    omega (arith, powers-few c.loop-power.invariant (omega arith))

pub overflow_add-result : goal.overflow_add-result
overflow_add-result c =
    omega (arith, powers-few c.loop-power.invariant (omega arith))

pub loop-power-preserved : goal.loop-power-preserved
loop-power-preserved c =
    powers-next c.loop-power.invariant (omega arith)

pub returns : goal.returns
returns c =
    powers-last c.loop-power.invariant (omega arith) (omega arith)
