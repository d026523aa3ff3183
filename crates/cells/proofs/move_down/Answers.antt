use Prim.Native.Nat.{◌+◌}
use native.Mathlib.Omega.{arith}
use lib.ListN.{drop, length-drop}
use lib.Seq.{length-take-le}
use Rattle.cells.proofs.Laws.{writing-none, writing_more, writing-all, moved-byte}
use Rattle.cells.proofs.move_down.Goals as goal

pub loop-j-init : goal.loop-j-init
loop-j-init c =
    writing-none _ _ _

pub loop-j-preserved : goal.loop-j-preserved
loop-j-preserved c =
    let l = c.loop-j in
    let z = c.args in
    let e = length-take-le z.n (drop (z.at + z.gap) z.bs.now) (omega (arith, length-drop (z.at + z.gap) z.bs.now)) in
    writing_more l.invariant (omega arith) _
    (moved-byte z.bs.now l.bs z.at z.gap z.n l.j l.invariant (omega arith))

pub returns : goal.returns
returns c =
    let z = c.args in
    let e = length-take-le z.n (drop (z.at + z.gap) z.bs.now) (omega (arith, length-drop (z.at + z.gap) z.bs.now)) in
    writing-all c.loop-j.invariant (omega arith)
