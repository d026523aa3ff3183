-- One law for each way out.
use Rattle.paths.proofs.Laws.{unrooted, subtree-form, typed-form, type-fits}
use native.Mathlib.Omega.{arith}
use Rattle.paths.proofs.path_form.Goals as goal

pub returns-in_err-names-clause-value : goal.returns-in_err-names-clause-value
returns-in_err-names-clause-value c = rw c.from_residual.ensures (unrooted _ c.in_err-names.ensures.cases)

pub returns-in_default-clause-value : goal.returns-in_default-clause-value
returns-in_default-clause-value c =
    let g = c.in_ok-names.ensures.cases in
    subtree-form _ _ g.0 g.1 c.in_default.ensures

pub returns-in_err-y-clause-value : goal.returns-in_err-y-clause-value
returns-in_err-y-clause-value c =
    let g = c.in_ok-names.ensures.cases in
    let s = c.split_at.ensures in
    rw c.from_residual-in_err-y.ensures
    (typed-form _ _ g.0 g.1 c.in-Some.ensures _ _ s.front s.back _ c.in_err-y.ensures)

pub returns-clause-value : goal.returns-clause-value
returns-clause-value c =
    let g = c.in_ok-names.ensures.cases in
    let s = c.split_at.ensures in
    typed-form _ _ g.0 g.1 c.in-Some.ensures _ _ s.front s.back _ c.in_ok-y.ensures

pub returns-clause-names_fit : goal.returns-clause-names_fit
returns-clause-names_fit c =
    let s = c.split_at.ensures in
    let f = type-fits _ _ c.in_ok-y.ensures in
    let g = c.in_ok-names.ensures.cases in
    omega (arith, f, g.2, s.front_len, s.back_len)
