-- The change of each of the three columns is the step of the rows.
use mathlib.Core.Path.{ap}
use native.Mathlib.Omega.{arith}
use lib.ListN.{get_or}
use Rattle.eights.proofs.Laws.{eight-changed}
use Rattle.stepping.proofs.Laws.{step-put}
use Rattle.stepping.proofs.step.Goals as goal

pub returns : goal.returns
returns c =
    let form = c.requires.own_bound.1 in
    let change = c.change_for-change in
    let is = (c.in-Some.ensures {u = tt}).is in
    let fits = change.ensures.change_fits in
    let at = c.columns.ensures in
    let a = eight-changed _ _ change.result _ fits (omega (arith, ap (λ x. get_or x 0 0) at)) c.change_front.ensures in
    let b = eight-changed _ _ change.result _ fits (omega (arith, ap (λ x. get_or x 1 0) at)) c.change_front-2.ensures in
    let d = eight-changed _ _ change.result _ fits (omega (arith, ap (λ x. get_or x 2 0) at)) c.change_front-3.ensures in
    step-put _ _ _ _ c.requires.table.inside c.requires.table.room change.result fits _ _ _ _ form
    (rw c.from_row.ensures at is) change.ensures.value at a b d
