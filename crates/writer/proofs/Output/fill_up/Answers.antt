-- The copy's bytes are those of s up to the buffer's end.
use Prim.Native.Nat.{◌-◌}
use mathlib.Core.Path.{◌∙◌}
use native.Mathlib.Omega.{arith}
use lib.ListN.{length, length-take}
use Rattle.spec.proofs.Written.{part-set}
use Rattle.writer.proofs.Laws.{sets-room}
use Rattle.writer.proofs.Output.fill_up.Goals as goal

pub returns-clause-bytes : goal.returns-clause-bytes
returns-clause-bytes c =
    let a = c.args.self.now in
    let s = c.args.s.now in
    let n = length a.bytes.now - a.at in
    let k = length-take n s in
    part-set _ _ _ _ _ c.copy_from_slice.ensures.after (omega arith) (omega arith)
    ∙ sets-room n a.bytes.now a.at s (omega arith)
