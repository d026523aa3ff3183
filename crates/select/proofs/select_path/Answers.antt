-- Nothing of a path that has no form; else what its names select.
use Rattle.select.proofs.Laws.{path-other, path-by, path-fits}
use Rattle.select.proofs.select_path.Goals as goal

pub returns-in_err-t-clause-value : goal.returns-in_err-t-clause-value
returns-in_err-t-clause-value c =
    let a = c.args in
    rw c.from_residual.ensures (path-other a.model.now.words a.model.now.names.now a.path.now c.in_err-t.ensures.value)

pub returns : goal.returns
returns c =
    let a = c.args in
    let e = path-by a.model.now.words a.model.now.names.now a.path.now _ _ _ c.in_ok-t.ensures.value c.select_names.ensures in
    record { value = e; selection_fits = path-fits a.model.now.words a.model.now.names.now a.path.now _ e }
