-- The library tests the cells, each of them one of the store's.
use Rattle.std.proofs.Common.{refl, sym, rules, tests, ◌∙◌}
use Rattle.std.proofs.lemmas.Iterator.{YieldsList-from_slice}
use Rattle.std.proofs.lemmas.Iterator.Adapters.{serves_from_places}
use Rattle.std.proofs.lemmas.Iterator.Search.{all_from_yields_List}
use Rattle.spec.specs.Assets.{length_at, length_ok}
use Rattle.asset_reply.proofs.Laws.{cells-all, below-at}
use Rattle.asset_reply.proofs.check_lengths.Goals as goal

pub all-right-requires-clause-callable : goal.all-right-requires-clause-callable
all-right-requires-clause-callable c =
    serves_from_places (YieldsList-from_slice c.args.cells.now cc) (λ x q h. search rules)
    (λ x k l e. below-at c.requires x.now k l e)

pub returns-then-not-right : goal.returns-then-not-right
returns-then-not-right c = (
  refl,
  sym (all_from_yields_List (λ i. length_ok (length_at c.args.assets.now i)) _ _ _ c.all-right.ensures.ran
      (YieldsList-from_slice c.args.cells.now cc) (λ x b q k. search (rules, tests))
      ∙ cells-all _ _)
      ∙ c.if-not-right.true,
)

pub returns : goal.returns
returns c =
    sym (all_from_yields_List (λ i. length_ok (length_at c.args.assets.now i)) _ _ _ c.all-right.ensures.ran
    (YieldsList-from_slice c.args.cells.now cc) (λ x b q k. search (rules, tests))
    ∙ cells-all _ _)
    ∙ c.if-not-right.false
