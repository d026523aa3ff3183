-- The invariant: the observes that are left lead to the bench case's stores.
use Rattle.bench.proofs.Laws.{Ahead}
use Rattle.bench.proofs.prepare.Given as goal

abbrev pub invariant-loop-time : goal.invariant-loop-time
invariant-loop-time l = Ahead l.observations l.assets l.time-index
