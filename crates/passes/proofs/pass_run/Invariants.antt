-- The invariant: the numbers before those of `rest` are behind. The measure is the numbers left.
use Prim.Native.Nat.{◌-◌}
use mathlib.Core.Path.{◌≡◌}
use Rattle.history.specs.Observations.{item_count}
use Rattle.passes.proofs.Laws.{Passing}
use Rattle.passes.proofs.pass_run.Given as goal

abbrev pub invariant-loop-rest : goal.invariant-loop-rest
invariant-loop-rest l = record {
  state : Passing l.steps (item_count l.st) l.st l.f l.fn.run.from l.rest.to l.initial.marks l.marks l.initial.seen l.seen
      l.rest.from l.rest.place;
  end : l.rest.to ≡ l.fn.run.to;
}

abbrev pub decreases-loop-rest : goal.decreases-loop-rest
decreases-loop-rest l = l.rest.to - l.rest.from
