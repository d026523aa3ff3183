use native.Mathlib.Omega.{arith}
use Rattle.row_groups.proofs.slots.slots_of.Goals as goal

pub slot_in-requires : goal.slot_in-requires
slot_in-requires c =
    omega (arith, c.home_of-c.ensures.component, c.requires.component c.loop-j.j (omega arith))
