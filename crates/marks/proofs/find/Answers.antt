-- The places are those that the library looks for.
use Rattle.std.proofs.Common.{rules, tests}
use mathlib.Core.Path.{◌≡◌, sym, ◌∙◌}
use Rattle.std.specs.List.{position}
use lib.Dec.{eqb}
use Rattle.std.proofs.lemmas.Iterator.{YieldsList-from_slice}
use Rattle.std.proofs.lemmas.Iterator.Search.{position_from_yields_List}
use Rattle.marks.specs.Marks.{key_in}
use Rattle.marks.proofs.Laws.{found-key, found-free}
use Rattle.marks.proofs.find.Goals as goal
use Rattle.marks.proofs.find.Goals.{After-position-found}

-- the first of the two
keyed : (c : After-position-found)
    → c.position-found.result ≡ position (λ x. eqb (key_in x) c.args.key) c.args.marks.now
keyed c =
    position_from_yields_List _ _ _ _ c.position-found.ensures.ran (YieldsList-from_slice c.args.marks.now cc)
    (λ x b q k. search (rules, tests))

pub returns-then-is_some-clause-place : goal.returns-then-is_some-clause-place
returns-then-is_some-clause-place c =
    found-key c.args.key c.args.marks.now (keyed (goal.at.returns-then-is_some-clause-place c).After-position-found)
    (sym c.is_some.ensures ∙ c.if-is_some.true)

pub returns-clause-place : goal.returns-clause-place
returns-clause-place c =
    let z = c.args in
    let e : c.position.result ≡ position (λ x. eqb x 0) z.marks.now =
    position_from_yields_List _ _ _ _ c.position.ensures.ran (YieldsList-from_slice z.marks.now cc)
    (λ x b q k. search (rules, tests)) in
    found-free z.key z.marks.now (keyed (goal.at.returns-clause-place c).After-position-found)
    (sym c.is_some.ensures ∙ c.if-is_some.false) e
