-- A reply that passes the test has the words that it needs.
use Rattle.spec.proofs.Words.{told}
use Rattle.reply_rows.proofs.Laws.{reply-words}
use Rattle.reply_rows.proofs.checked.Goals as goal

pub of-requires : goal.of-requires
of-requires c =
    reply-words _ _ (told c.reply_ok.ensures c.if-not-reply_ok.false)
