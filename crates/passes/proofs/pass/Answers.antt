use mathlib.Core.Path.{ap}
use Rattle.std.specs.Prelude.{is_some}
use Rattle.passes.proofs.Laws.{front-no, both}
use Rattle.passes.proofs.pass.Goals as goal

pub returns-in_err-pass_run : goal.returns-in_err-pass_run
returns-in_err-pass_run c =
    let r = c.runs.ensures in
    rw c.from_residual.ensures
    (front-no r.low r.high (rw r.begins at c.pass_run.ensures) (ap is_some c.in_err-pass_run.was))

pub returns : goal.returns
returns c =
    let r = c.runs.ensures in
    both r.low r.high (rw r.begins at c.pass_run.ensures) (ap is_some c.in_ok-pass_run.was)
    (rw (r.meets, r.ends) at c.pass_run-2.ensures)
