-- A shift and a mask take out one digit.
use Prim.Native.Nat.{◌^◌, ◌/◌}
use mathlib.Core.Path.{ap}
use lib.Bits.{and_mask}
use lib.Dec.{eqb}
use Rattle.selection.proofs.has.Goals as goal

pub returns : goal.returns
returns c = ap (λ x. eqb x 1) (and_mask (c.args.selection / 2 ^ c.args.i) 1)
