-- What is counted, and the words that the iterator still gives, are the element's length.
use Prim.Native.Nat.{ℕ}
use mathlib.Core.List.{List}
use Rattle.std.proofs.lemmas.Iterator.{YieldsList}
use Rattle.element.proofs.Laws.{Counted}
use Rattle.element.proofs.element_length.Given as goal

abbrev pub invariant-loop-word : goal.invariant-loop-word
invariant-loop-word l =
    (goal.iterator-loop-word).can_next l.word-iterator × ((goal.iterator-loop-word).is_finite l.word-iterator
    × ((rest : List (List ℕ))
    × (YieldsList (goal.iterator-loop-word).next_gives (λ x. x.now) l.word-iterator rest
    × Counted l.s rest l.n)))
