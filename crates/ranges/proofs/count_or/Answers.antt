-- The test of the count decides.
use native.Mathlib.Omega.{arith}
use borrow.Author.Tests.{eq-eqb, ne_eqb}
use Rattle.ranges.proofs.count_or.Goals as goal

pub returns-then-count-eq0 : goal.returns-then-count-eq0
returns-then-count-eq0 c =
    (rw (eq-eqb _ _ c.if-count-eq0.true), omega arith)

pub returns-else-count-eq0 : goal.returns-else-count-eq0
returns-else-count-eq0 c =
    (rw (ne_eqb _ _ c.if-count-eq0.false), omega arith)
