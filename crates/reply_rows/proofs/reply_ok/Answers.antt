-- The reply's length, then its rows.
use mathlib.Core.Path.{◌∙◌}
use Rattle.spec.proofs.Words.{told}
use Rattle.reply_rows.proofs.Laws.{reply-short, reply-tested}
use Rattle.reply_rows.proofs.reply_ok.Goals as goal

pub returns-then-words_ok : goal.returns-then-words_ok
returns-then-words_ok c =
    reply-tested _ _ (told c.words_ok.ensures c.if-words_ok.true)
    (rw c.of.ensures at c.all_rows.ensures)

pub returns-else-words_ok : goal.returns-else-words_ok
returns-else-words_ok c =
    c.if-words_ok.false ∙ reply-short _ _ (told c.words_ok.ensures c.if-words_ok.false)
