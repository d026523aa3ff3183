-- The library's test of all numbers below n is the definition's.
use Rattle.std.proofs.Common.{refl, rules, tests, arith}
use Rattle.std.proofs.lemmas.Iterator.{YieldsList-from_range}
use Rattle.std.proofs.lemmas.Iterator.Search.{all_from_yields_List}
use Rattle.spec.specs.Model.{component_word, component_ok}
use Rattle.model.proofs.Laws.{components-all}
use Rattle.model.proofs.checks.components_ok.Goals as goal

pub returns : goal.returns
returns c =
    let model = c.args.model.now in
    components-all model c.args.names c.components.result _ c.components.ensures.0
    (all_from_yields_List (λ i. component_ok c.args.names i (component_word model i)) _ _ c.all.result c.all.ensures.ran
    (YieldsList-from_range 0 _ c.components.result refl (omega arith)) (λ x b q k. search (rules, tests)))
