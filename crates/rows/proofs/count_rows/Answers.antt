-- A count over two runs: the tests of both, and the sum of their rows.
use mathlib.Core.Path.{sym, ◌∙◌}
use native.Mathlib.Omega.{arith}
use Rattle.rows.proofs.Laws.{front-broken, counted-few, back-broken, both-counted}
use Rattle.rows.proofs.count_rows.Goals as goal

pub returns-in_err-before : goal.returns-in_err-before
returns-in_err-before c =
    let r = c.runs.ensures in
    let x = rw r.begins at c.count_run.ensures in
    c.from_residual.ensures ∙ front-broken _ _ _ _ _ _ r.low r.high (sym c.in_err-before.was ∙ x)

pub returns-in_err-behind : goal.returns-in_err-behind
returns-in_err-behind c =
    let r = c.runs.ensures in
    let x = rw r.begins at c.count_run.ensures in
    let y = rw (r.meets, r.ends) at c.count_run-2.ensures in
    c.from_residual-in_err-behind.ensures
    ∙ back-broken _ _ _ _ _ _ r.low r.high (sym c.in_ok-before.was ∙ x) (sym c.in_err-behind.was ∙ y)

pub overflow_add-result : goal.overflow_add-result
overflow_add-result c =
    let r = c.runs.ensures in
    let x = counted-few _ _ _ _ _ (sym c.in_ok-before.was ∙ c.count_run.ensures) in
    let y = counted-few _ _ _ _ _ (sym c.in_ok-behind.was ∙ c.count_run-2.ensures) in
    omega (arith, r.low, r.high, r.begins, r.meets, r.ends)

pub returns : goal.returns
returns c =
    let r = c.runs.ensures in
    let x = rw r.begins at c.count_run.ensures in
    let y = rw (r.meets, r.ends) at c.count_run-2.ensures in
    both-counted _ _ _ _ _ _ r.low r.high (sym c.in_ok-before.was ∙ x) (sym c.in_ok-behind.was ∙ y)
