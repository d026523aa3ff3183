-- The invariant: the first c rows, those of the selected items below i, are written.
use Rattle.spec.specs.Model.{items, category}
use Rattle.latest.proofs.Laws.{Written}
use Rattle.latest.proofs.write_latest.Given as goal

abbrev pub invariant-loop-i : goal.invariant-loop-i
invariant-loop-i l =
    Written (category l.source.model.now) (items l.source.model.now) l.source.store.now l.selection l.k l.initial.out l.out
    l.c l.i
