use Rattle.snapshot_rows.proofs.Laws.{counting-start, counting_more, counting-skip, counting-end}
use Rattle.spec.proofs.Words.{told}
use Rattle.snapshot_rows.proofs.count.Goals as goal
use Rattle.snapshot_rows.proofs.count.Goals.{then-has, else-has}

pub loop-i-init : goal.loop-i-init
loop-i-init c =
    counting-start _ _ _

pub loop-i-preserved : goal.loop-i-preserved
loop-i-preserved c =
    let v = c.loop-i.invariant in
    let h = c.loop-i-test.true in
    elim c.if-has.branch [
      | then-has w ↦
          rw w.k-is (counting_more v h _ (told c.has.ensures w.if-has.true) w.used.ensures.places w.used.ensures.few)
      | else-has w ↦ rw w.k-is (counting-skip v h (told c.has.ensures w.if-has.false))
    ]

pub returns : goal.returns
returns c =
    counting-end c.loop-i.invariant c.loop-i-test.false
