use Prim.Native.Nat.{◌+◌}
use Rattle.history.specs.Observations.{item_count}
use Rattle.passes.proofs.Laws.{Skipping}
use Rattle.passes.proofs.plain_run.Given as goal

abbrev pub invariant-loop-far : goal.invariant-loop-far
invariant-loop-far l =
    Skipping l.steps (item_count l.st) l.st l.f l.fn.run.from l.fn.run.to l.initial.seen l.seen (l.fn.run.from + l.far)
    (l.fn.run.place + l.far)
