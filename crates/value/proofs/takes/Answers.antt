-- Each kind has its own clause of the definition.
use native.Mathlib.Omega.{arith}
use borrow.Author.Tests.{lt-ltb, le-ltb, le-leb, eq-eqb, ne_eqb}
use Rattle.value.proofs.takes.Goals as goal

pub returns-then-category-le-CONDITION : goal.returns-then-category-le-CONDITION
returns-then-category-le-CONDITION c =
    rw (
      c.in-Unavailable.is,
      le-leb _ _ c.if-category-le-CONDITION.true,
      lt-ltb c.args.category 3 (omega arith),
    )

pub returns-else-category-le-CONDITION : goal.returns-else-category-le-CONDITION
returns-else-category-le-CONDITION c =
    rw (c.in-Unavailable.is, le-ltb c.args.category 3 (omega arith))

pub returns-in-Sample : goal.returns-in-Sample
returns-in-Sample c =
    rw c.in-Sample.is

pub returns-then-category-eq-EVENT : goal.returns-then-category-eq-EVENT
returns-then-category-eq-EVENT c =
    rw (c.in-Event.is, eq-eqb _ _ c.if-category-eq-EVENT.true)

pub returns-else-category-eq-EVENT : goal.returns-else-category-eq-EVENT
returns-else-category-eq-EVENT c =
    rw (c.in-Event.is, ne_eqb _ _ c.if-category-eq-EVENT.false)

pub returns-then-category-eq-CONDITION : goal.returns-then-category-eq-CONDITION
returns-then-category-eq-CONDITION c =
    rw c.in-Condition.is (simp (eq-eqb _ _ c.if-category-eq-CONDITION.true) c.native_ok.ensures)

pub returns-else-category-eq-CONDITION : goal.returns-else-category-eq-CONDITION
returns-else-category-eq-CONDITION c =
    rw c.in-Condition.is (simp (ne_eqb _ _ c.if-category-eq-CONDITION.false))
