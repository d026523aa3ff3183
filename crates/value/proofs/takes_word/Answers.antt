-- Each category tells its own words apart.
use Prim.Native.Nat.{◌<◌}
use mathlib.Core.Path.{◌∙◌}
use native.Mathlib.Omega.{arith}
use borrow.Author.Tests.{lt-leb, eq-eqb, ne_eqb}
use Rattle.value.proofs.Taking.{own-taken, own-other, none-taken, level-low, level-tested}
use Rattle.value.proofs.Taking.{discrete-event, discrete-other, other}
use Rattle.value.proofs.takes_word.Goals as goal

pub returns-then-kind-category : goal.returns-then-kind-category
returns-then-kind-category c =
    eq-eqb _ _ c.if-kind-category.true ∙ own-taken _ _ (omega arith) c.if-kind-category.true

pub returns-else-kind-category : goal.returns-else-kind-category
returns-else-kind-category c =
    own-other _ _ (omega arith) c.if-kind-category.false

pub returns-then-word-eq0 : goal.returns-then-word-eq0
returns-then-word-eq0 c =
    let h : c.args.category < 3 = omega arith in
    eq-eqb _ _ c.if-word-eq0.true ∙ none-taken _ _ h c.if-word-eq0.true

pub returns-then-front-ge-NORMAL : goal.returns-then-front-ge-NORMAL
returns-then-front-ge-NORMAL c =
    level-tested _ _ c.if-category-eq-CONDITION.true c.if-front-ge-NORMAL.true

pub returns-else-front-ge-NORMAL : goal.returns-else-front-ge-NORMAL
returns-else-front-ge-NORMAL c =
    lt-leb _ _ c.if-front-ge-NORMAL.false
    ∙ level-low _ _ c.if-category-eq-CONDITION.true c.if-word-eq0.false c.if-front-ge-NORMAL.false

pub returns-then-kind-eq-EVENT_KIND : goal.returns-then-kind-eq-EVENT_KIND
returns-then-kind-eq-EVENT_KIND c =
    eq-eqb _ _ c.if-kind-eq-EVENT_KIND.true ∙ discrete-event _ _ c.if-category-eq-DISCRETE.true c.if-kind-eq-EVENT_KIND.true

pub returns-else-kind-eq-EVENT_KIND : goal.returns-else-kind-eq-EVENT_KIND
returns-else-kind-eq-EVENT_KIND c =
    discrete-other _ _ c.if-category-eq-DISCRETE.true c.if-kind-eq-EVENT_KIND.false

pub returns-else-category-eq-DISCRETE : goal.returns-else-category-eq-DISCRETE
returns-else-category-eq-DISCRETE c =
    ne_eqb _ _ c.if-category-eq-DISCRETE.false
    ∙ other _ _ (omega arith) c.if-category-eq-CONDITION.false c.if-category-eq-DISCRETE.false
