-- The cells are written, and the lengths before place i.
use Rattle.asset_reply.proofs.Laws.{Writing}
use Rattle.asset_reply.proofs.write_cells.Given as goal

abbrev pub invariant-loop-i : goal.invariant-loop-i
invariant-loop-i l = Writing l.assets l.cells l.k l.fn.out l.out l.i
