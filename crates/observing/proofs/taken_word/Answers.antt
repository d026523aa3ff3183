-- A word that the item takes is its value's.
use mathlib.Core.Path.{sym, ◌∙◌}
use Rattle.observing.proofs.Laws.{not_taken, taken_is, word_fits, word-packed}
use Rattle.observing.proofs.taken_word.Goals as goal

pub pack_word-requires : goal.pack_word-requires
pack_word-requires c =
    (c.requires, word_fits c.args.category c.args.word c.takes_word.ensures c.if-takes_word.true)

pub returns-then-takes_word : goal.returns-then-takes_word
returns-then-takes_word c =
    let z = c.args in
    taken_is _ _ _ (sym c.takes_word.ensures ∙ c.if-takes_word.true)
    (word-packed z.category z.word c.takes_word.ensures c.if-takes_word.true _ _ c.pack_word.ensures)

pub returns-else-takes_word : goal.returns-else-takes_word
returns-else-takes_word c =
    not_taken _ _ _ (sym c.takes_word.ensures ∙ c.if-takes_word.false)
