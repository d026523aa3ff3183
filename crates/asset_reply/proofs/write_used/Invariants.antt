-- What is left to write from place i on makes the whole.
use Rattle.history.specs.Calls.{down_from}
use Rattle.asset_reply.proofs.Laws.{Filling}
use Rattle.asset_reply.proofs.write_used.Given as goal

abbrev pub invariant-loop-i : goal.invariant-loop-i
invariant-loop-i l = Filling l.assets (down_from l.k) l.k l.fn.out l.out l.i
