use Prim.Native.Nat.{◌+◌, ◌<◌}
use mathlib.Core.Path.{refl}
use native.Mathlib.Nat.{add-zero, add_assoc}
use native.Mathlib.Omega.{arith}
use Rattle.rows.proofs.Laws.{counting-start, counting-broken, counting_more, counting-end, one-at-most}
use Rattle.rows.proofs.count_run.Goals as goal

pub loop-word-init : goal.loop-word-init
loop-word-init c =
    rw (add-zero c.args.run.from, add-zero c.args.run.place)
    (counting-start _ _ _ _ _ _ c.requires.run)

pub returns-then-m-i : goal.returns-then-m-i
returns-then-m-i c =
    let w = c.ring_words-word-items.ensures in
    let h : c.args.run.from + c.loop-word.word-index < c.args.run.to = omega (arith, w.len) in
    counting-broken c.loop-word.invariant h refl (w.each _ (omega (arith, w.len))) c.item_of-i.ensures
    (rw c.items-m.ensures.0 at c.if-m-i.true)

pub overflow_add-count : goal.overflow_add-count
overflow_add-count c =
    omega (arith, c.loop-word.invariant.few, one-at-most c.has.result, c.from-count.ensures)

pub loop-word-preserved : goal.loop-word-preserved
loop-word-preserved c =
    let w = c.ring_words-word-items.ensures in
    let r = c.args.run in
    let i = c.loop-word.word-index in
    let h : r.from + i < r.to = omega (arith, w.len) in
    rw (c.from-count.ensures, ← add_assoc r.from i 1, ← add_assoc r.place i 1)
    (counting_more c.loop-word.invariant h refl (w.each _ (omega (arith, w.len))) c.item_of-i.ensures
    (rw c.items-m.ensures.0 at c.if-m-i.false) c.has.ensures)

pub returns : goal.returns
returns c =
    counting-end c.loop-word.invariant (omega (arith, c.ring_words-word-items.ensures.len))
