-- The text ends at the zero that the library looks for, or with its cell.
use Rattle.std.proofs.Common.{◌≡◌, rules, eqb, tests}
use Rattle.std.proofs.lemmas.Iterator.{YieldsList-from_slice}
use Rattle.std.proofs.lemmas.Iterator.Search.{position_from_yields_List}
use Rattle.spec.specs.Model.{letters}
use Rattle.model.proofs.Laws.{zero-found}
use Rattle.model.proofs.name_text.Goals as goal

pub returns : goal.returns
returns c =
    let e : c.unwrap_or.result ≡ letters c.name_cell-cell.result.now =
    zero-found _ c.position.result _
    (rw c.name_cell-cell.ensures c.requires.cell)
    (position_from_yields_List (λ x. eqb x 0) _ _ _ c.position.ensures.ran
    (YieldsList-from_slice c.name_cell-cell.result.now cc) (λ x b q k. search (rules, tests)))
    (search rules) in cc
