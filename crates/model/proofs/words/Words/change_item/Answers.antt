-- The library's first number below n with the category is the definition's.
use Rattle.std.proofs.Common.{refl, rules, tests, arith}
use Rattle.std.proofs.lemmas.Iterator.{YieldsList-from_range}
use Rattle.std.proofs.lemmas.Iterator.Search.{find_from_yields_List}
use Rattle.spec.specs.Model.{is_change}
use Rattle.model.proofs.Laws.{change-found}
use Rattle.model.proofs.words.Words.change_item.Goals as goal

pub returns : goal.returns
returns c =
    let model = c.args.self.now in (
      change-found model c.items.result c.find.result c.items.ensures.0
          (find_from_yields_List (is_change model) _ _ c.find.result c.find.ensures.ran
          (YieldsList-from_range 0 _ c.items.result refl (omega arith)) (λ x b q k. search (rules, tests))),
      omega arith,
    )
