-- The reply's words are no more than its buffer's.
use native.Mathlib.Omega.{arith}
use Rattle.benchcase.proofs.answer.Goals as goal

pub slice_bounds-reply-end : goal.slice_bounds-reply-end
slice_bounds-reply-end g c =
    omega (arith, c.word_count-n.ensures, c.ask-answer.ensures.reply_bound, c.ask-answer.array_long)
