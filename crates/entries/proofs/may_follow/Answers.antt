-- The tests of keys.
use mathlib.Core.Path.{ap, ◌∙◌}
use Rattle.std.specs.Prelude.{not}
use Rattle.entries.proofs.Laws.{may-keyed, may-not}
use Rattle.entries.proofs.may_follow.Goals as goal

pub returns-then-both_active : goal.returns-then-both_active
returns-then-both_active c =
    let z = c.args in
    ap not c.has_key.ensures
    ∙ may-keyed z.n z.key z.marks.now c.if-n-eq0.false c.both_active.ensures c.if-both_active.true

pub returns-else-both_active : goal.returns-else-both_active
returns-else-both_active c =
    let z = c.args in
    may-not z.n z.key z.marks.now c.if-n-eq0.false c.both_active.ensures c.if-both_active.false
