-- By whether there are rows.
use mathlib.Core.Path.{ap, ◌∙◌}
use lib.ListN.{get_or}
use Rattle.writer.proofs.Laws.{put-append}
use Rattle.row_groups.specs.Groups.{Source}
use Rattle.document.proofs.Laws.{put_is, none-text, some-text}
use Rattle.document.proofs.put_streams.Goals as goal

pub returns-then-rows-eq0 : goal.returns-then-rows-eq0
returns-then-rows-eq0 c =
    let k = c.rows.ensures.0 ∙ ap (λ (s : Source). get_or s.reply 0 0) c.d.view_is in
    put_is (none-text _ _ c.args.d.now.reply _ k c.if-rows-eq0.true) c.put_bytes.ensures

pub returns-else-rows-eq0 : goal.returns-else-rows-eq0
returns-else-rows-eq0 c =
    let k = c.rows.ensures.0 ∙ ap (λ (s : Source). get_or s.reply 0 0) c.d.view_is in
    let m = ap (λ (s : Source). s.model) c.d.view_is in
    let n = ap (λ (s : Source). s.names) c.d.view_is in
    put_is (some-text _ _ c.args.d.now.reply _ k c.if-rows-eq0.false)
    (put-append c.put_bytes-else-rows-eq0.ensures
    (put-append (rw (m, n) at c.put_device.ensures) (put-append c.put_components.ensures c.put_bytes-else-rows-eq0-2.ensures)))
