use Prim.Native.Nat.{◌+◌, ◌-◌}
use mathlib.Core.Path.{◌≡◌, ◌∙◌}
use native.Mathlib.Omega.{arith}
use Rattle.rows.proofs.Laws.{sampling-start, sampling-item, sampling-room}
use Rattle.rows.proofs.Laws.{sampling-more, sampling-skip, sampling-end}
use Rattle.rows.proofs.write_run.Goals as goal
use Rattle.rows.proofs.write_run.Goals.{then-has, else-has}

pub loop-number-init : goal.loop-number-init
loop-number-init c =
    let r = c.args.run in
    let q : r.place + (r.from - r.from) ≡ r.place = omega arith in
    rw q (sampling-start _ _ _ _ _ _ _ _ _ c.requires.run c.requires.e_value c.requires.e_bound.0)

pub has-requires : goal.has-requires
has-requires c =
    let w = rw c.slice-words.ensures.value at c.ring_word-packed.ensures in
    let i =
    sampling-item c.loop-number.invariant c.loop-number-test.true c.ring_size-n.ensures.is w c.item_of.ensures in
    omega (arith, i)

pub write_row_of-requires : goal.write_row_of-requires
write_row_of-requires c =
    let w = rw c.slice-words.ensures.value at c.ring_word-packed.ensures in
    sampling-room c.loop-number.invariant c.loop-number-test.true c.ring_size-n.ensures.is w c.item_of.ensures
    c.has.ensures c.if-has.true c.requires.e_bound.1

pub loop-number-preserved : goal.loop-number-preserved
loop-number-preserved c =
    let v = c.loop-number.invariant in
    let h = c.loop-number-test.true in
    let r = c.args.run in
    let q : r.place + (c.loop-number.number + 1 - r.from) ≡ r.place + (c.loop-number.number - r.from) + 1 =
    omega arith in
    let p = rw c.slice-words.ensures.value at c.ring_word-packed.ensures in
    elim c.if-has.branch [
      | then-has w ↦
          rw (w.c-is, q)
          (sampling-more v h c.ring_size-n.ensures.is p c.item_of.ensures c.has.ensures w.if-has.true
          (rw c.slice-words.ensures.value at w.ring_row.ensures.time)
          (rw (w.ring_row.ensures.number, w.ring_row.ensures.packed, ← c.ring_word-packed.ensures)
          at (w.out-is ∙ w.write_row_of.ensures)))
      | else-has w ↦
          rw (w.out-is, w.c-is, q)
          (sampling-skip v h c.ring_size-n.ensures.is p c.item_of.ensures c.has.ensures w.if-has.false)
    ]

pub returns : goal.returns
returns c =
    let whole = sampling-end c.loop-number.invariant c.loop-number-test.false in
    record { value = whole.0; out_after = whole.1 }
