use Prim.Native.Nat.{◌+◌}
use mathlib.Core.Path.{◌≡◌, refl}
use native.Mathlib.Omega.{arith}
use Rattle.rows.proofs.Flat.{left-room, left-more, left_end}
use Rattle.latest.proofs.Laws.{used_start, used-none, used-more, used_over}
use Rattle.latest.proofs.write_entries.Goals as goal

pub loop-j-init : goal.loop-j-init
loop-j-init c =
    let e : c.args.done + 0 ≡ c.args.done = omega arith in
    rw e (used_start _ _ _ _ c.requires.0)

pub returns-then-row-eq0 : goal.returns-then-row-eq0
returns-then-row-eq0 c =
    let whole = left_end c.loop-j.invariant
    (used-none c.args.entries.now _ (omega (arith, c.len.ensures)) c.row-row.ensures c.if-row-eq0.true) in
    record { value = whole.0; out_after = whole.1 }

pub write_row_of-requires : goal.write_row_of-requires
write_row_of-requires c =
    left-room c.loop-j.invariant
    (used-more c.args.entries.now _ (omega (arith, c.len.ensures)) c.row-row.ensures c.if-row-eq0.false) c.requires.1

pub loop-j-preserved : goal.loop-j-preserved
loop-j-preserved c =
    let e : c.args.done + (c.loop-j.j + 1) ≡ c.args.done + c.loop-j.j + 1 = omega arith in
    rw e
    (left-more c.loop-j.invariant
    (used-more c.args.entries.now _ (omega (arith, c.len.ensures)) c.row-row.ensures c.if-row-eq0.false)
    c.write_row_of.ensures)

pub returns : goal.returns
returns c =
    let v = c.loop-j.invariant in
    let whole = left_end v
    (used_over _ _ c.args.k c.args.done _ c.len.ensures.1 (omega (arith, c.len.ensures)) refl
    (omega (arith, v.rows, v.fits))) in
    record { value = omega (arith, whole.0, c.len.ensures); out_after = whole.1 }
