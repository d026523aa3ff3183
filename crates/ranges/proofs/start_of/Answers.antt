-- The test of `from` decides.
use borrow.Author.Tests.{eq-eqb, ne_eqb}
use Rattle.ranges.proofs.start_of.Goals as goal

pub returns-then-from-eq0 : goal.returns-then-from-eq0
returns-then-from-eq0 c =
    rw (eq-eqb _ _ c.if-from-eq0.true)

pub returns-else-from-eq0 : goal.returns-else-from-eq0
returns-else-from-eq0 c =
    rw (ne_eqb _ _ c.if-from-eq0.false)
