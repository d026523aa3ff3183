-- A remainder is below its divisor.
use mathlib.Core.Path.{refl}
use native.Mathlib.Nat.{mod-lt}
use native.Mathlib.Omega.{arith}
use Rattle.observations.proofs.place.Goals as goal

pub returns : goal.returns
returns c =
    record { is = refl; low = mod-lt _ (omega arith) }
