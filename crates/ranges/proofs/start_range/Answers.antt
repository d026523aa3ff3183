-- last + 1 is the number behind last.
use native.Mathlib.Numerals.{add-one}
use Rattle.ranges.proofs.start_range.Goals as goal

pub returns : goal.returns
returns c =
    rw (← add-one _) c.in_range.ensures
