-- The place behind what is put from 0 on.
use native.Mathlib.Omega.{arith}
use Rattle.writer.proofs.length_of.Goals as goal

pub returns : goal.returns
returns g c =
    let p = c.requires.1.1 _ _ c.put.ensures in
    omega (arith, p.place, c.len.ensures, c.new-out.ensures.at)
