-- The length is the place that the library looks for, or that of the whole cell.
use Rattle.std.proofs.Common.{rules, tests}
use mathlib.Core.Bool.{not}
use Rattle.std.proofs.lemmas.Iterator.{YieldsList-from_slice}
use Rattle.std.proofs.lemmas.Iterator.Search.{position_from_yields_List}
use Rattle.spec.specs.Bytes.{name_byte}
use Rattle.model.proofs.Laws.{letters-found}
use Rattle.model.proofs.name_length.Goals as goal

pub returns : goal.returns
returns c =
    letters-found c.args.cell.now c.position.result _
    (position_from_yields_List (λ x. not (name_byte x)) _ _ _ c.position.ensures.ran (YieldsList-from_slice c.args.cell.now cc)
    (λ x b q k. search (rules, tests))) (search rules)
