-- The invariant: `extra` has the rows beyond the first of the selected items below i, whose entries have their form.
--
use Rattle.spec.specs.Model.{items, category}
use Rattle.latest.proofs.Laws.{Beyond}
use Rattle.latest.proofs.extra.Given as goal

abbrev pub invariant-loop-i : goal.invariant-loop-i
invariant-loop-i l =
    Beyond (category l.source.model.now) (items l.source.model.now) l.source.store.now l.selection l.extra l.i
