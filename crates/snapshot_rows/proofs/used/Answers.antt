use Rattle.snapshot_rows.proofs.Laws.{used-is, used-placed}
use Rattle.snapshot_rows.proofs.used.Goals as goal

pub returns-clause-places : goal.returns-clause-places
returns-clause-places c = used-is c.args.eight.now c.first_unused.ensures c.unwrap_or-n.ensures c.told-eight

pub returns-clause-each : goal.returns-clause-each
returns-clause-each c = used-placed c.args.eight.now c.first_unused.ensures c.unwrap_or-n.ensures c.told-eight
