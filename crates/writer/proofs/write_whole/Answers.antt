-- Too short, or with room for it.
use native.Mathlib.Omega.{arith}
use Rattle.writer.proofs.Whole.{too_short}
use Rattle.writer.proofs.write_whole.Goals as goal

pub returns-then-text-length_of-clause-text_after :
    goal.returns-then-text-length_of-clause-text_after
returns-then-text-length_of-clause-text_after g c =
    (too_short _ _ c.length_of.ensures (omega arith) c.if-text-length_of.true).0

pub returns-then-text-length_of-clause-value : goal.returns-then-text-length_of-clause-value
returns-then-text-length_of-clause-value g c =
    (too_short _ _ c.length_of.ensures (omega arith) c.if-text-length_of.true).1
