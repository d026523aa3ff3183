-- By the zeros at the end.
use Rattle.figures.proofs.Laws.{part-one, part-two, part-three}
use Rattle.figures.proofs.put_part.Goals as goal

pub returns-then-p-eq0 : goal.returns-then-p-eq0
returns-then-p-eq0 c =
    rw (part-one _ c.if-p-eq0.true) c.put_fixed.ensures

pub returns-then-p-eq0-2 : goal.returns-then-p-eq0-2
returns-then-p-eq0-2 c =
    rw
    (part-two _ c.if-p-eq0.false
    c.if-p-eq0-2.true)
    c.put_fixed-then-p-eq0-2.ensures

pub returns-else-p-eq0-2 : goal.returns-else-p-eq0-2
returns-else-p-eq0-2 c =
    rw
    (part-three _ c.if-p-eq0.false
    c.if-p-eq0-2.false)
    c.put_fixed-else-p-eq0-2.ensures
