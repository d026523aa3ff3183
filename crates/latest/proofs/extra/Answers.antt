use Prim.Native.Nat.{◌<◌}
use Rattle.std.proofs.Common.{rules, tests}
use mathlib.Core.Path.{◌∙◌}
use native.Mathlib.Omega.{arith}
use Rattle.spec.specs.Model.{items}
use Rattle.spec.proofs.Words.{told}
use Rattle.latest.proofs.Laws.{latest-table, beyond-start, beyond-few, beyond-out, beyond-plain, beyond-end, beyond-kept}
use Rattle.latest.proofs.extra.Goals as goal
use Rattle.latest.proofs.extra.Goals.{then-has+then-category-eq-CONDITION+in_ok-n, else-has}
use Rattle.latest.proofs.extra.Goals.{else-has-via-then-has+else-category-eq-CONDITION, else-has-via-else-has}

pub loop-i-init : goal.loop-i-init
loop-i-init c =
    beyond-start _ _ _ _

pub of-entries-requires : goal.of-entries-requires
of-entries-requires c =
    rw c.slice-words.ensures.value
    (latest-table _ _ (rw c.args.source.agree at c.slice-words.ensures.head.head) (rw c.args.source.agree at c.latest-latest.ensures.rows)
    c.latest-latest.ensures.at (omega arith))

pub count-requires : goal.count-requires
count-requires c =
    let h : c.loop-i.i < items c.args.source.model.now = omega arith in
    record { own_bound = omega (arith, h, c.items-m.ensures) }

pub returns-in_err-n : goal.returns-in_err-n
returns-in_err-n c =
    rw c.from_residual.ensures
    (rw c.in_err-n.was at
    (beyond-kept c.loop-i.invariant (omega arith) c.has.ensures c.if-has.true c.category.ensures c.if-category-eq-CONDITION.true
    c.latest-latest.ensures.rows c.args.source.agree c.latest-latest.ensures.at
    (rw (c.of-entries.ensures, c.slice-words.ensures.value) at c.count.ensures)
    c.filter.result c.filter.ensures (λ x b q. search (rules, tests))))

pub overflow_add-extra : goal.overflow_add-extra
overflow_add-extra c =
    let more = rw c.in_ok-n.was at
    (beyond-kept c.loop-i.invariant (omega arith) c.has.ensures c.if-has.true c.category.ensures c.if-category-eq-CONDITION.true
    c.latest-latest.ensures.rows c.args.source.agree c.latest-latest.ensures.at
    (rw (c.of-entries.ensures, c.slice-words.ensures.value) at c.count.ensures)
    c.filter.result c.filter.ensures (λ x b q. search (rules, tests))) in
    omega (arith, beyond-few more (omega (arith, c.items-m.ensures)))

pub loop-i-preserved : goal.loop-i-preserved
loop-i-preserved c =
    let h : c.loop-i.i < items c.args.source.model.now = omega arith in
    elim c.if-has.branch [
      | then-has+then-category-eq-CONDITION+in_ok-n w ↦
          rw w.extra-is
          (rw w.in_ok-n.was at
          (beyond-kept c.loop-i.invariant h c.has.ensures w.if-has.true w.category.ensures w.if-category-eq-CONDITION.true
          c.latest-latest.ensures.rows c.args.source.agree c.latest-latest.ensures.at
          (rw (w.of-entries.ensures, c.slice-words.ensures.value) at w.count.ensures)
          w.filter.result w.filter.ensures (λ x b q. search (rules, tests))))
      | else-has w ↦
          rw w.extra-is
          (elim w.else-has.branch [
            | else-has-via-then-has+else-category-eq-CONDITION u ↦
                beyond-plain c.loop-i.invariant h (told c.has.ensures u.if-has.true)
                (λ z. u.if-category-eq-CONDITION.false (u.category.ensures ∙ z))
            | else-has-via-else-has u ↦ beyond-out c.loop-i.invariant h (told c.has.ensures u.if-has.false)
          ])
    ]

pub returns : goal.returns
returns c =
    beyond-end c.loop-i.invariant (omega arith)
