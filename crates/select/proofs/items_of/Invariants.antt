-- The selection has the chosen items from j on, moved down by j.
use Rattle.spec.specs.Words.{set_of}
use Rattle.spec.specs.Model.{items}
use Rattle.select.specs.Choice.{type_given, chosen}
use Prim.Native.Nat.{◌+◌, ◌*◌, ◌^◌}
use mathlib.Core.Path.{◌≡◌}
use Rattle.select.proofs.items_of.Given as goal

abbrev pub invariant-loop-j : goal.invariant-loop-j
invariant-loop-j l =
    set_of (chosen l.model.words l.model.names.now l.set (type_given l.y)) (items l.model.words)
    ≡ 2 ^ l.j * l.selection + set_of (chosen l.model.words l.model.names.now l.set (type_given l.y)) l.j
