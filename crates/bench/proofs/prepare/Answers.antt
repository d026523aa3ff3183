-- Each observe is the next of the bench case's.
use Rattle.bench.proofs.Laws.{ahead-start, next-observe, ahead-more, ahead-end}
use Rattle.bench.proofs.prepare.Goals as goal

pub loop-time-init : goal.loop-time-init
loop-time-init c =
    ahead-start c.requires.model_value c.requires.names_value c.requires.observations_value c.requires.assets_value
    c.start.ensures.1 c.start.ensures.2

pub loop-time-preserved : goal.loop-time-preserved
loop-time-preserved c =
    ahead-more c.loop-time.observations c.start.new.assets c.loop-time.time-index c.loop-time.invariant
    c.requires.model_value c.requires.names_value (next-observe _ c.loop-time-test.true) c.observe.ensures.1

pub returns-clause-observations_after : goal.returns-clause-observations_after
returns-clause-observations_after c = (ahead-end c.loop-time.invariant c.loop-time-test.false).0

pub returns-clause-assets_after : goal.returns-clause-assets_after
returns-clause-assets_after c = (ahead-end c.loop-time.invariant c.loop-time-test.false).1
