-- The test of the time decides.
use borrow.Author.Tests.{eq-eqb, ne_eqb}
use Rattle.observing.proofs.time_or.Goals as goal

pub returns-then-time-eq0 : goal.returns-then-time-eq0
returns-then-time-eq0 c =
    rw (eq-eqb _ _ c.if-time-eq0.true)

pub returns-else-time-eq0 : goal.returns-else-time-eq0
returns-else-time-eq0 c =
    rw (ne_eqb _ _ c.if-time-eq0.false)
