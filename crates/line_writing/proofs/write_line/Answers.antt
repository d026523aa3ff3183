-- The tests decide, and behind them the line is written where there is room.
use mathlib.Core.Path.{refl, sym, ◌∙◌}
use Rattle.spec.proofs.Refused.{handed-on, none-of}
use Rattle.history.specs.Calls.{write_line}
use Rattle.line_writing.proofs.Laws.{item_refused, kind-refused, time-refused, passed}
use Rattle.writer.proofs.Whole.{written_is}
use Rattle.line_writing.proofs.write_line.Goals as goal

pub returns-in_err-words : goal.returns-in_err-words
unfolding write_line
returns-in_err-words c =
    let n = rw c.in_err-words.was at c.checked.ensures in
    rw (handed-on _ c.from_residual.ensures.1 n.0, n.1) (refl, refl)

pub returns-in_err-category : goal.returns-in_err-category
returns-in_err-category c =
    let n = rw c.in_ok-words.was at c.checked.ensures in
    let o = c.in_err-category.ensures.ok_part in
    let r = none-of c.category_at.result c.ok_or.ensures.value c.in_err-category.was in
    rw (item_refused _ _ _ _ _ _ n.2 (rw (o, n.0) at c.category_at.ensures), handed-on _ c.from_residual-in_err-category.ensures.1 r.1)
    (refl, refl)

pub returns-then-not-takes : goal.returns-then-not-takes
returns-then-not-takes c =
    let n = rw c.in_ok-words.was at c.checked.ensures in
    rw
    (kind-refused _ _ _ _ _ _ n.2 _ (rw (c.in_ok-category.ensures.ok_part, n.0) at c.category_at.ensures)
    c.takes.ensures c.if-not-takes.true)
    (refl, refl)

pub returns-then-time-gt-MAX_TIME : goal.returns-then-time-gt-MAX_TIME
returns-then-time-gt-MAX_TIME c =
    let n = rw c.in_ok-words.was at c.checked.ensures in
    rw
    (time-refused _ _ _ _ _ _ n.2 _ (rw (c.in_ok-category.ensures.ok_part, n.0) at c.category_at.ensures)
    c.takes.ensures c.if-not-takes.false c.if-time-gt-MAX_TIME.true)
    (refl, refl)

pub returns : goal.returns
returns c =
    let n = rw c.in_ok-words.was at c.checked.ensures in
    rw
    (passed _ _ _ _ _ _ n.2 _ (rw (c.in_ok-category.ensures.ok_part, n.0) at c.category_at.ensures)
    c.takes.ensures c.if-not-takes.false c.if-time-gt-MAX_TIME.false)
    (written_is _ _ (c.write_line.ensures.text_after, c.write_line.ensures.value))
