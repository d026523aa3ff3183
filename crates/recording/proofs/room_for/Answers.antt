-- One law to each branch.
use mathlib.Core.Path.{refl, sym, ◌∙◌}
use native.Mathlib.Omega.{arith}
use mathlib.Core.Bool.{true, false}
use Rattle.observations.proofs.Laws.{none-overwritten, some-overwritten}
use Rattle.recording.proofs.Laws.{room-spent, room-unused, room-entry}
use Rattle.recording.proofs.room_for.Goals as goal

pub returns-then-last-ge-MAX_NUMBER : goal.returns-then-last-ge-MAX_NUMBER
returns-then-last-ge-MAX_NUMBER c =
    room-spent _ _ _ _ c.last-last.ensures.is (omega arith)

pub returns-in_default : goal.returns-in_default
returns-in_default c =
    let free = none-overwritten _ _ _ _ _ (sym c.in_default.is ∙ c.overwritten.ensures) in
    room-unused _ _ _ _ c.last-last.ensures.is (omega arith) free

-- where the number overwrites an entry, that entry decides
pub returns-then-not-may_overwrite : goal.returns-then-not-may_overwrite
returns-then-not-may_overwrite c =
    let there = some-overwritten _ _ _ _ _ (sym c.in-Some.is ∙ c.overwritten.ensures) in
    room-entry _ _ _ _ c.last-last.ensures.is (omega arith) _ _ there.0 refl there.1.1.1 _ false
    c.may_overwrite.ensures c.if-not-may_overwrite.true

pub returns : goal.returns
returns c =
    let there = some-overwritten _ _ _ _ _ (sym c.in-Some.is ∙ c.overwritten.ensures) in
    room-entry _ _ _ _ c.last-last.ensures.is (omega arith) _ _ there.0 refl there.1.1.1 _ true
    c.may_overwrite.ensures c.if-not-may_overwrite.false
