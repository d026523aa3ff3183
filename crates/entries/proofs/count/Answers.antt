-- The first row is used: where the others are zeros it is alone, and otherwise fill tells.
use mathlib.Core.Path.{sym, ◌∙◌}
use Rattle.std.proofs.Common.{rules}
use Rattle.entries.proofs.Unused.{first_alone}
use Rattle.entries.proofs.Laws.{broken-filled, used-filled}
use Rattle.entries.proofs.count.Goals as goal

pub returns-then-rest_unused : goal.returns-then-rest_unused
returns-then-rest_unused c =
    first_alone _ _ c.row-first.ensures c.if-first-ne0.true (sym c.rest_unused.ensures ∙ c.if-rest_unused.true)

pub returns : goal.returns
returns c = search (rules, broken-filled, used-filled)
