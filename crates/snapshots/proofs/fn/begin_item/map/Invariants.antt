-- What the closure returns; of an array nothing is inferred.
use Rattle.std.proofs.Common.{◌≡◌}
use Rattle.snapshots.proofs.fn.begin_item.map.Given as goal

abbrev pub ensures : goal.ensures
ensures l r = r ≡ l.filled.marks
