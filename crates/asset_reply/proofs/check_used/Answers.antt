-- The library tests the cells, each of them one of the store's.
use Rattle.std.proofs.Common.{refl, sym, rules, tests, ◌∙◌}
use native.Mathlib.Omega.{arith}
use Rattle.std.proofs.lemmas.Iterator.{YieldsList-from_range}
use Rattle.std.proofs.lemmas.Iterator.Search.{all_from_yields_List}
use Rattle.spec.specs.Assets.{length_at, length_ok}
use Rattle.asset_reply.proofs.Laws.{range-all}
use Rattle.asset_reply.proofs.check_used.Goals as goal

pub returns-then-not-right : goal.returns-then-not-right
returns-then-not-right c = (
  refl,
  sym (all_from_yields_List (λ i. length_ok (length_at c.args.assets.now i)) _ _ _ c.all-right.ensures.ran
      (YieldsList-from_range 0 c.args.k c.args.k refl (omega arith)) (λ x b q k. search (rules, tests))
      ∙ range-all _ _)
      ∙ c.if-not-right.true,
)

pub returns : goal.returns
returns c =
    sym (all_from_yields_List (λ i. length_ok (length_at c.args.assets.now i)) _ _ _ c.all-right.ensures.ran
    (YieldsList-from_range 0 c.args.k c.args.k refl (omega arith)) (λ x b q k. search (rules, tests))
    ∙ range-all _ _)
    ∙ c.if-not-right.false
