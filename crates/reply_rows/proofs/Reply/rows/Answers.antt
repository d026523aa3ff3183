-- As many words as k asks for are there.
use mathlib.Core.Path.{refl}
use native.Mathlib.Omega.{arith}
use Rattle.reply_rows.proofs.Laws.{words_length}
use Rattle.reply_rows.proofs.Reply.rows.Goals as goal

pub bounds-self-inside-0 : goal.bounds-self-inside-0
bounds-self-inside-0 c =
    omega (arith, words_length c.self.inside.words.now c.self.invariant)

pub returns : goal.returns
returns c =
    rw (← c.self.view_is) (refl, words_length c.self.inside.words.now c.self.invariant)
