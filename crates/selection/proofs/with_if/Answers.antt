-- The bit of i is above the set, so the or adds it.
use Rattle.spec.proofs.Bits.{or_shifted}
use Rattle.selection.proofs.with_if.Goals as goal

pub returns-then-taken : goal.returns-then-taken
returns-then-taken c =
    rw c.if-taken.true (or_shifted c.args.set c.args.i c.requires.0 c.requires.1)

pub returns-else-taken : goal.returns-else-taken
returns-else-taken c =
    rw c.if-taken.false
