-- The invariant: the rows of the numbers up to `number` are written, and the next goes to word c.
use Prim.Native.Nat.{◌+◌, ◌-◌}
use Rattle.history.specs.Observations.{item_count}
use Rattle.rows.proofs.Laws.{Sampling}
use Rattle.rows.proofs.write_run.Given as goal

abbrev pub invariant-loop-number : goal.invariant-loop-number
invariant-loop-number l =
    Sampling l.st (item_count l.st) l.selection l.run.from l.run.to l.k l.done l.initial.out l.out l.c l.number
    (l.run.place + (l.number - l.run.from))
