-- The latest word decides; where the short way is not open nothing was changed.
use mathlib.Core.Path.{◌≡◌, refl, ◌∙◌}
use mathlib.Core.Logic.{◌≢◌}
use borrow.Author.Tests.{ne_eqb}
use Rattle.std.proofs.Common.{rules}
use Rattle.std.specs.Prelude.{Ok}
use Rattle.spec.specs.Model.{category, items}
use Rattle.history.specs.Observations.{ring_size}
use Rattle.judging.specs.declared.Judged.TheVariants.{New}
use Rattle.short_way.specs.Found.{found}
use Rattle.spec.proofs.Words.{told}
use Rattle.short_way.proofs.Laws.{found-same, found-new, by-found}
use Rattle.short_way.proofs.observe_short.Goals as goal
use Rattle.short_way.proofs.observe_short.Goals.{After-repeats, After-add_plain}

-- behind the first test the item has no conditions
plain : (c : After-repeats) → category c.args.model.now c.args.item ≢ 2
plain c e = c.if-category-eq-CONDITION.false (c.category.ensures ∙ e)

-- and behind the second it is new
new : (c : After-add_plain) → let st = c.args.observations.now in let model = c.args.model.now in
    Ok New ≡ found (category model) (ring_size st) (items model) st c.args.item c.args.word
new c =
    found-new (category c.args.model.now) _ _ _ _ _ (λ e. c.if-category-eq-CONDITION.false (c.category.ensures ∙ e))
    (rw c.of_model-before.ensures.0 at c.repeats.ensures) c.if-repeats.false

pub returns-then-category-eq-CONDITION : goal.returns-then-category-eq-CONDITION
returns-then-category-eq-CONDITION c =
    let k = told c.category.ensures c.if-category-eq-CONDITION.true in
    record { done = λ a e. cc; left = λ e. refl; new = λ e n. absurd (n k) }

pub returns-then-repeats : goal.returns-then-repeats
returns-then-repeats c =
    let f =
    found-same (category c.args.model.now) _ _ _ _ _ (plain (goal.at.returns-then-repeats c).After-repeats)
    (rw c.of_model-before.ensures.0 at c.repeats.ensures) c.if-repeats.true in
    rw (by-found _ _ _ _ _ _ _ f) (search rules)

pub add_plain-requires : goal.add_plain-requires
add_plain-requires c =
    record {
      head = c.requires.head;
      item_bound = (c.requires.item_bound, ne_eqb _ 2 (plain (goal.at.add_plain-requires c).After-repeats));
    }

pub returns : goal.returns
returns c =
    let f = new (goal.at.returns c).After-add_plain in
    rw (by-found _ _ _ _ _ _ _ f) (search rules)
