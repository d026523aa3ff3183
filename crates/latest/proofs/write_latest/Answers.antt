use Prim.Native.Nat.{◌<◌}
use mathlib.Core.Path.{◌∙◌}
use native.Mathlib.Omega.{arith}
use Rattle.spec.specs.Model.{items}
use Rattle.spec.proofs.Words.{told}
use Rattle.latest.proofs.Laws.{latest-table, written_start, written_out, written-end}
use Rattle.latest.proofs.Laws.{entries-room, entries-more, first-room, first_more, first-of}
use Rattle.latest.proofs.write_latest.Goals as goal
use Rattle.latest.proofs.write_latest.Goals.{then-has+then-category-eq-CONDITION, then-has+else-category-eq-CONDITION}
use Rattle.latest.proofs.write_latest.Goals.{else-has}

pub loop-i-init : goal.loop-i-init
loop-i-init c =
    written_start _ _ _ _ _ _ c.requires.k_value

pub of-entries-requires : goal.of-entries-requires
of-entries-requires c =
    let h : c.loop-i.i < items c.args.source.model.now = omega arith in
    rw c.slice-words.ensures.value
    (latest-table _ _ (rw c.args.source.agree at c.slice-words.ensures.head.head) (rw c.args.source.agree at c.latest-latest.ensures.rows)
    c.latest-latest.ensures.at h)

pub write_entries-c-requires : goal.write_entries-c-requires
write_entries-c-requires c =
    let v = c.loop-i.invariant in
    let h : c.loop-i.i < items c.args.source.model.now = omega arith in (
      rw (c.of-entries.ensures, c.slice-words.ensures.value) (entries-room v h (told c.has.ensures c.if-has.true)
          (rw c.args.source.agree at c.latest-latest.ensures.rows) c.latest-latest.ensures.at
          (told c.category.ensures c.if-category-eq-CONDITION.true)),
      omega (arith, v.put.len, c.requires.k_in_bounds),
    )

pub write_first-requires : goal.write_first-requires
write_first-requires c =
    let v = c.loop-i.invariant in
    let h : c.loop-i.i < items c.args.source.model.now = omega arith in (
      first-room v h (told c.has.ensures c.if-has.true) (rw c.args.source.agree at c.latest-latest.ensures.rows)
          c.latest-latest.ensures.at
          (λ z. c.if-category-eq-CONDITION.false (c.category.ensures ∙ z)),
      omega (arith, v.put.len, c.requires.k_in_bounds),
    )

pub loop-i-preserved : goal.loop-i-preserved
loop-i-preserved c =
    let v = c.loop-i.invariant in
    let h : c.loop-i.i < items c.args.source.model.now = omega arith in
    elim c.if-has.branch [
      | then-has+then-category-eq-CONDITION w ↦
          rw (w.out-is, w.c-is)
          (entries-more v h (told c.has.ensures w.if-has.true) (rw c.args.source.agree at c.latest-latest.ensures.rows)
          c.latest-latest.ensures.at (told w.category.ensures w.if-category-eq-CONDITION.true)
          (rw (w.of-entries.ensures, c.slice-words.ensures.value) at w.write_entries-c.ensures.value)
          (rw (w.of-entries.ensures, c.slice-words.ensures.value) at w.write_entries-c.ensures.out_after))
      | then-has+else-category-eq-CONDITION w ↦
          rw (w.out-is, w.c-is)
          (first_more v h (told c.has.ensures w.if-has.true) (rw c.args.source.agree at c.latest-latest.ensures.rows)
          c.latest-latest.ensures.at (λ z. w.if-category-eq-CONDITION.false (w.category.ensures ∙ z))
          (rw (w.of-entries.ensures, c.slice-words.ensures.value, first-of) at w.write_first.ensures))
      | else-has w ↦ rw (w.out-is, w.c-is) (written_out v h (told c.has.ensures w.if-has.false))
    ]

pub shape_of-out : goal.shape_of-out
shape_of-out c =
    c.loop-i.invariant.put.len

pub returns : goal.returns
returns c =
    written-end c.loop-i.invariant (omega arith)
