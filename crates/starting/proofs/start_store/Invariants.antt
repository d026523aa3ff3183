-- Invariant: Filling, the words stand for the items added so far, and the rest makes the whole; Turning, the next item
-- comes beside its place.
use Rattle.spec.specs.Model.{items, category}
use Rattle.starting.proofs.Filling.{Filling}
use Rattle.starting.proofs.Turns.{Turning}
use Rattle.starting.proofs.start_store.Given as goal

abbrev pub invariant-loop-item : goal.invariant-loop-item
invariant-loop-item l =
    (goal.iterator-loop-item).can_next l.item-iterator
    × (goal.iterator-loop-item).is_finite l.item-iterator
    × Turning l.n (items l.model) l.item-iterator
    × Filling (category l.model) l.n (items l.model) l.b l.host l.item-iterator.a.start l.st
