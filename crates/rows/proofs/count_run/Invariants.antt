-- The invariant: the rows of the numbers before that of the word in turn are counted.
use Prim.Native.Nat.{◌+◌}
use Rattle.history.specs.Observations.{item_count}
use Rattle.rows.proofs.Laws.{Counting}
use Rattle.rows.proofs.count_run.Given as goal

abbrev pub invariant-loop-word : goal.invariant-loop-word
invariant-loop-word l =
    Counting l.st (item_count l.st) l.selection l.fn.run.from l.fn.run.to l.count (l.fn.run.from + l.word-index)
    (l.fn.run.place + l.word-index)
