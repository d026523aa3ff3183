-- The document's own time, then the rows'.
use mathlib.Core.Path.{◌∙◌}
use borrow.Author.Tests.{lt-leb}
use Rattle.reply_rows.proofs.Laws.{made-late, times-tested}
use Rattle.reply_rows.proofs.times_ok.Goals as goal

pub returns-then-creation-le-MAX_TIME : goal.returns-then-creation-le-MAX_TIME
returns-then-creation-le-MAX_TIME c =
    times-tested _ _ c.if-creation-le-MAX_TIME.true c.all_rows.ensures

pub returns-else-creation-le-MAX_TIME : goal.returns-else-creation-le-MAX_TIME
returns-else-creation-le-MAX_TIME c =
    lt-leb _ _ c.if-creation-le-MAX_TIME.false ∙ made-late _ _ c.if-creation-le-MAX_TIME.false
