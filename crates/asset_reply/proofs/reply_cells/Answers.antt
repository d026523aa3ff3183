-- The sizes, then the part behind them as `write_cells` leaves it, are the reply's words.
use mathlib.Core.Path.{ap, refl}
use Rattle.std.specs.Prelude.{is_ok}
use Rattle.std.proofs.lemmas.Result.{err_from_is_err_and}
use Rattle.reply.proofs.Laws.{both}
use Rattle.asset_reply.proofs.Laws.{cells-wrong, cells-short, cells_whole}
use Rattle.asset_reply.proofs.reply_cells.Goals as goal

pub returns-in_err-check_lengths : goal.returns-in_err-check_lengths
returns-in_err-check_lengths c =
    let a = c.args in
    let e = c.in_err-check_lengths.ensures in
    let p = err_from_is_err_and c.from_residual.result c.from_residual.ensures.1 in
    rw (p.1, p.2, e.0) (both _ (cells-wrong a.assets.now a.cells.now a.reply.now e.1))

pub returns-in_err-fit_sizes : goal.returns-in_err-fit_sizes
returns-in_err-fit_sizes c =
    let a = c.args in
    let e = c.in_err-fit_sizes.was in
    let p = err_from_is_err_and c.from_residual-in_err-fit_sizes.result c.from_residual-in_err-fit_sizes.ensures.1 in
    rw (p.1, p.2, c.fit_sizes.ensures.refused _ e)
    (both _
    (cells-short a.assets.now c.fit_sizes.ensures.fitted c.used-used.ensures.value c.capacity-capacity.ensures.value _
    refl c.in_ok-check_lengths.ensures (ap is_ok e)))

pub returns : goal.returns
returns c =
    let a = c.args in
    both _
    (cells_whole a.assets.now c.fit_sizes.ensures.fitted c.used-used.ensures.value c.capacity-capacity.ensures.value _
    refl c.in_ok-check_lengths.ensures _ (ap is_ok c.in_ok-fit_sizes.was) c.write_cells.ensures)
