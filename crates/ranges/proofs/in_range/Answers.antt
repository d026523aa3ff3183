-- One law to each of the two tests, and to what passes both.
use Rattle.ranges.proofs.Laws.{range-low, range-high, range-fine}
use Rattle.ranges.proofs.in_range.Goals as goal

pub returns-then-n-low : goal.returns-then-n-low
returns-then-n-low c =
    range-low _ _ _ c.if-n-low.true

pub returns-then-high-n : goal.returns-then-high-n
returns-then-high-n c =
    range-high _ _ _ c.if-n-low.false c.if-high-n.true

pub returns : goal.returns
returns c =
    range-fine _ _ _ c.if-n-low.false c.if-high-n.false
