-- The sizes, then the part behind them as `write_used` leaves it, are the reply's words.
use mathlib.Core.Path.{ap}
use Rattle.std.specs.Prelude.{is_ok}
use Rattle.std.proofs.lemmas.Result.{err_from_is_err_and}
use Rattle.reply.proofs.Laws.{both}
use Rattle.asset_reply.proofs.Laws.{cells-wrong, cells-short, cells_whole, length-down, of-used}
use Rattle.asset_reply.proofs.reply_all.Goals as goal

pub returns-in_err-check_used : goal.returns-in_err-check_used
returns-in_err-check_used c =
    let a = c.args in
    let e = c.in_err-check_used.ensures in
    let p = err_from_is_err_and c.from_residual.result c.from_residual.ensures.1 in
    rw (p.1, p.2, e.0)
    (both _ (of-used a.assets.now a.reply.now c.used-k.ensures.value (cells-wrong a.assets.now _ a.reply.now e.1)))

pub returns-in_err-fit_sizes : goal.returns-in_err-fit_sizes
returns-in_err-fit_sizes c =
    let a = c.args in
    let e = c.in_err-fit_sizes.was in
    let p = err_from_is_err_and c.from_residual-in_err-fit_sizes.result c.from_residual-in_err-fit_sizes.ensures.1 in
    rw (p.1, p.2, c.fit_sizes.ensures.refused _ e)
    (both _
    (of-used a.assets.now a.reply.now c.used-k.ensures.value
    (cells-short a.assets.now c.fit_sizes.ensures.fitted c.used-k.ensures.value c.capacity.ensures.value _
    (length-down _) c.in_ok-check_used.ensures (ap is_ok e))))

pub returns : goal.returns
returns c =
    let a = c.args in
    both _
    (of-used a.assets.now a.reply.now c.used-k.ensures.value
    (cells_whole a.assets.now c.fit_sizes.ensures.fitted c.used-k.ensures.value c.capacity.ensures.value _
    (length-down _) c.in_ok-check_used.ensures _ (ap is_ok c.in_ok-fit_sizes.was) c.write_used.ensures))
