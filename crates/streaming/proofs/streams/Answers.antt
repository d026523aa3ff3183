-- The tests decide, and behind them the document is written where there is room.
use mathlib.Core.Path.{◌≡◌, ap, ◌∙◌}
use Rattle.spec.proofs.Refused.{handed-on}
use Rattle.spec.proofs.Words.{told}
use Rattle.streams.specs.Streams.{times_ok}
use Rattle.row_groups.specs.Groups.{Source}
use Rattle.streaming.proofs.Laws.{model-refused, reply-refused, times-refused, passed}
use Rattle.streaming.proofs.streams.Goals as goal
use Rattle.streaming.proofs.streams.Goals.{After-times_ok}

-- the last test is of the reply's times
tested : (c : After-times_ok) → c.times_ok.result ≡ times_ok c.args.creation_time c.args.reply.now
tested c =
    let d = rw c.in_ok-made.was at c.checked-2.ensures in
    c.times_ok.ensures ∙ ap (λ (s : Source). times_ok c.args.creation_time s.reply) (c.made.view_is ∙ d.0)

pub returns-in_err-named : goal.returns-in_err-named
returns-in_err-named c =
    let n = rw c.in_err-named.was at c.checked.ensures in
    rw (handed-on _ c.from_residual.ensures.1 n.0) (model-refused _ _ _ _ _ _ _ n.1)

pub returns-in_err-made : goal.returns-in_err-made
returns-in_err-made c =
    let n = rw c.in_ok-named.was at c.checked.ensures in
    let d = rw c.in_err-made.was at c.checked-2.ensures in
    rw (handed-on _ c.from_residual-in_err-made.ensures.1 d.0) (reply-refused _ _ _ _ _ _ _ n.2 (rw n.0 at d.1))

pub returns-then-not-times_ok : goal.returns-then-not-times_ok
returns-then-not-times_ok c =
    let n = rw c.in_ok-named.was at c.checked.ensures in
    let d = rw c.in_ok-made.was at c.checked-2.ensures in
    times-refused _ _ _ _ _ _ _ n.2 (rw n.0 at d.1)
    (told (tested (goal.at.returns-then-not-times_ok c).After-times_ok) c.if-not-times_ok.true)

pub returns : goal.returns
returns c =
    let n = rw c.in_ok-named.was at c.checked.ensures in
    let d = rw c.in_ok-made.was at c.checked-2.ensures in
    let w = c.write_document.ensures in
    passed _ _ _ _ _ _ _ n.2 (rw n.0 at d.1) (told (tested (goal.at.returns c).After-times_ok) c.if-not-times_ok.false)
    (rw (d.0, n.0, n.1) at w.text_after, rw (d.0, n.0, n.1) at w.value)
