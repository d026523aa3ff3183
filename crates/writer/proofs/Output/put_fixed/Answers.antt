use mathlib.Core.Path.{◌≡◌}
use native.Mathlib.Omega.{arith}
use Rattle.writer.proofs.Laws.{filling-more, filling-all}
use Rattle.writer.proofs.Output.put_fixed.Goals as goal

pub loop-i-preserved : goal.loop-i-preserved
loop-i-preserved g c =
    filling-more c.loop-i.invariant (omega arith)

pub returns : goal.returns
returns g c =
    let z : c.loop-i.i ≡ 0 = omega arith in
    rw (filling-all (rw z at c.loop-i.invariant)) at c.put_bytes.ensures
