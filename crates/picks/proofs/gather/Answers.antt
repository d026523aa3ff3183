use Prim.Native.Nat.{◌+◌, ◌<◌}
use mathlib.Core.Bool.{false≢true}
use mathlib.Core.Path.{refl}
use native.Mathlib.Nat.{add-zero, add_assoc}
use native.Mathlib.Omega.{arith}
use Rattle.picks.proofs.Gathers.{gathering-start, gathering-broken, gathering-more, gathering-end}
use Rattle.picks.proofs.gather.Goals as goal

pub loop-far-init : goal.loop-far-init
loop-far-init c =
    let r = c.args.run in
    rw (add-zero r.from, add-zero r.place)
    (gathering-start _ _ _ _ _ _ _ c.requires.part.run c.requires.part.ordered c.told-picks)

pub returns-then-m-i : goal.returns-then-m-i
returns-then-m-i c =
    let w = c.ring_words-words.ensures in
    let h : c.args.run.from + c.loop-far.far < c.args.run.to = omega (arith, w.len) in
    record {
      value = gathering-broken c.loop-far.invariant h refl (w.each _ (omega (arith, w.len))) c.item_of-i.ensures
          (rw c.items-m.ensures.0 at c.if-m-i.true);
      gathered = λ z. absurd (false≢true z);
    }

pub loop-far-preserved : goal.loop-far-preserved
loop-far-preserved c =
    let w = c.ring_words-words.ensures in
    let r = c.args.run in
    let i = c.loop-far.far in
    let h : r.from + i < r.to = omega (arith, w.len) in
    rw (c.from-count.ensures, ← add_assoc r.from i 1, ← add_assoc r.place i 1)
    (gathering-more c.loop-far.invariant h refl (w.each _ (omega (arith, w.len))) c.item_of-i.ensures
    (rw c.items-m.ensures.0 at c.if-m-i.false) c.requires.short (omega (arith, c.requires.part.from)) (omega arith)
    c.has.ensures)

pub returns : goal.returns
returns c =
    let w = gathering-end c.loop-far.invariant (omega (arith, c.ring_words-words.ensures.len)) c.requires.short in
    record { value = w.0; gathered = λ z. w.1 }
