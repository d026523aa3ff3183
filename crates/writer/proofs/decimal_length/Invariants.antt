-- The powers of ten so far. The measure is what n is above them.
use Prim.Native.Nat.{◌-◌}
use Rattle.writer.proofs.Length.{Powers}
use Rattle.writer.proofs.decimal_length.Given as goal

abbrev pub invariant-loop-power : goal.invariant-loop-power
invariant-loop-power l = Powers l.n l.power l.more

abbrev pub decreases-loop-power : goal.decreases-loop-power
decreases-loop-power l = l.n - l.power
