-- The moved bytes and the three parts of the new cell, one behind the other, are one run.
use Prim.Native.Nat.{ℕ, ◌-◌}
use mathlib.Core.Path.{◌≡◌}
use borrow.Author.Rules.{rules}
use native.Mathlib.Omega.{arith}
use lib.ListN.{length, replicate, length-replicate}
use Rattle.cells.proofs.Laws.{renew-runs}
use Rattle.cells.proofs.renew_at.Goals as goal

pub returns : goal.returns
returns c =
    let z = c.args in
    let left = z.w - length z.head.now - length z.s.now in
    let n = length-replicate {A = ℕ} left 0 in
    let e : c.fill.new.self ≡ replicate left 0 = search rules in
    renew-runs z.at z.w z.moved z.head.now z.s.now z.bs.now _ _ _ _ (omega arith) (omega arith)
    c.move_down.ensures c.copy_from_slice.ensures.after c.copy_from_slice-2.ensures.after e
