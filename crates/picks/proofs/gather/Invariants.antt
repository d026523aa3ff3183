use Prim.Native.Nat.{◌+◌}
use Rattle.history.specs.Observations.{item_count}
use Rattle.picks.proofs.Gathers.{Gathering}
use Rattle.picks.proofs.gather.Given as goal

abbrev pub invariant-loop-far : goal.invariant-loop-far
invariant-loop-far l =
    Gathering l.steps (item_count l.st) l.st l.f l.fn.run l.initial.seen l.seen l.picks l.count
    (l.fn.run.from + l.far) (l.fn.run.place + l.far)
