use Rattle.history.specs.Observations.{item_count}
use Rattle.picks.proofs.Gathers.{Stepping}
use Rattle.picks.proofs.step_picks.Given as goal

abbrev pub invariant-loop-pick : goal.invariant-loop-pick
invariant-loop-pick l = Stepping (item_count l.st) l.st l.f l.run l.picks l.initial.marks l.marks l.pick-index
