use Prim.Native.Nat.{◌+◌, ◌<◌}
use mathlib.Core.Path.{refl, sym, ◌∙◌}
use native.Mathlib.Nat.{add-zero, add_assoc}
use native.Mathlib.Omega.{arith}
use Rattle.passes.proofs.Laws.{skipping-start, skipping-more}
use Rattle.passes.proofs.plain_run.Goals as goal

pub loop-far-init : goal.loop-far-init
loop-far-init c =
    let r = c.args.run in
    rw (add-zero r.from, add-zero r.place) (skipping-start _ _ _ _ _ _ _ _ c.requires.run c.requires.ordered)

pub loop-far-preserved : goal.loop-far-preserved
loop-far-preserved c =
    let w = c.ring_words-words.ensures in
    let r = c.args.run in
    let i = c.loop-far.far in
    let h : r.from + i < r.to = omega (arith, w.len) in
    rw (← add_assoc r.from i 1, ← add_assoc r.place i 1)
    (skipping-more c.loop-far.invariant h refl (w.each _ (omega (arith, w.len))) c.item_of-i.ensures
    (rw c.items-m.ensures.0 at c.if-m-i.false) (sym c.has.ensures ∙ c.if-has.false) (omega (arith, c.requires.from)))
