use Rattle.rows.proofs.Flat.{flat_start, flat-room, flat-more, flat-skip, flat-end}
use Rattle.snapshot_rows.specs.Held.{held_by}
use Rattle.spec.proofs.Words.{told}
use native.Mathlib.Omega.{arith}
use Rattle.snapshot_rows.proofs.write_held.Goals as goal
use Rattle.snapshot_rows.proofs.write_held.Goals.{then-has, else-has}

pub loop-i-init : goal.loop-i-init
unfolding held_by
loop-i-init c =
    flat_start _ _ _ _ _ c.requires.k_value.0

pub write_item-c-requires : goal.write_item-c-requires
write_item-c-requires c =
    let v = c.loop-i.invariant in
    let h = rw c.items-i-end.ensures.0 at c.loop-i-test.true in
    let fits = flat-room v h (told c.has.ensures c.if-has.true) in
    record {
      i_lt_items = h;
      st_bound = c.requires.st_bound;
      i_bound = (fits, omega (arith, v.len));
    }

pub loop-i-preserved : goal.loop-i-preserved
loop-i-preserved c =
    let v = c.loop-i.invariant in
    let h = rw c.items-i-end.ensures.0 at c.loop-i-test.true in
    elim c.if-has.branch [
      | then-has w ↦
          rw (w.out-is, w.c-is, w.write_item-c.ensures.value)
          (flat-more v h (told c.has.ensures w.if-has.true) w.write_item-c.ensures.out_after)
      | else-has w ↦ rw (w.out-is, w.c-is) (flat-skip v h (told c.has.ensures w.if-has.false))
    ]

pub shape_of-out : goal.shape_of-out
shape_of-out c =
    c.loop-i.invariant.len

pub returns : goal.returns
unfolding held_by
returns c =
    flat-end c.loop-i.invariant (rw c.items-i-end.ensures.0 at c.loop-i-test.false)
