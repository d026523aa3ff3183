-- The short way where it is open, else the long way.
use Rattle.observing.proofs.observe_taken.Goals as goal

pub returns-in-Some : goal.returns-in-Some
returns-in-Some c =
    c.observe_short.ensures.done _ c.in-Some.is

pub returns-in-None : goal.returns-in-None
returns-in-None c =
    rw (c.observe_short.ensures.left c.in-None.is) at c.observe_long.ensures
