-- The place that is looked for decides.
use Rattle.std.proofs.Common.{rules, tests}
use Rattle.changes.proofs.Laws.{raised-by}
use Rattle.changes.proofs.raised.Goals as goal

pub returns : goal.returns
returns c =
    let z = c.args in
    raised-by z.key z.marks.now c.find.result c.told-marks c.find.ensures.place c.map_or.ensures
    (λ x p. search (rules, tests))
