-- The requires bounds both products.
use borrow.Author.Tests.{eq-eqb, ne_eqb}
use Rattle.bench.proofs.Lengths.{few-cells, few-rows}
use native.Mathlib.Omega.{arith}
use Rattle.bench.proofs.words_of.Goals as goal

pub overflow_mul-result : goal.overflow_mul-result
overflow_mul-result c =
    omega (arith, few-cells c.args.next c.args.k c.requires c.if-next-eq0.true)

pub overflow_add-result : goal.overflow_add-result
overflow_add-result c =
    omega (arith, few-cells c.args.next c.args.k c.requires c.if-next-eq0.true)

pub overflow_mul-result-else-next-eq0 : goal.overflow_mul-result-else-next-eq0
overflow_mul-result-else-next-eq0 c =
    omega (arith, few-rows c.args.next c.args.k c.requires c.if-next-eq0.false)

pub overflow_add-result-else-next-eq0 : goal.overflow_add-result-else-next-eq0
overflow_add-result-else-next-eq0 c =
    omega (arith, few-rows c.args.next c.args.k c.requires c.if-next-eq0.false)

pub returns-then-next-eq0 : goal.returns-then-next-eq0
returns-then-next-eq0 c =
    rw (eq-eqb _ _ c.if-next-eq0.true)

pub returns-else-next-eq0 : goal.returns-else-next-eq0
returns-else-next-eq0 c =
    rw (ne_eqb _ _ c.if-next-eq0.false)
