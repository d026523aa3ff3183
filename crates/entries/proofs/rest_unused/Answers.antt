use native.Mathlib.Omega.{arith}
use Rattle.entries.proofs.Unused.{ored-none, ored-more, ored-all}
use Rattle.entries.proofs.rest_unused.Goals as goal

pub loop-j-init : goal.loop-j-init
loop-j-init c = ored-none _

pub loop-j-preserved : goal.loop-j-preserved
loop-j-preserved c =
    ored-more c.loop-j.invariant c.len-j-end.ensures.1 (omega arith) c.row-row.ensures

pub returns : goal.returns
returns c =
    ored-all c.loop-j.invariant c.len-j-end.ensures.1 (omega arith)
