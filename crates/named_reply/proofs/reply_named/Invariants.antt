-- The cells found, then those of the ids that the iterator still gives, are all of them.
use Prim.Native.Nat.{ℕ}
use mathlib.Core.List.{List}
use Rattle.spec.specs.Bytes.{split}
use Rattle.std.proofs.lemmas.Iterator.{YieldsList}
use Rattle.named_reply.proofs.Laws.{Finding}
use Rattle.named_reply.proofs.reply_named.Given as goal

abbrev pub invariant-loop-id : goal.invariant-loop-id
invariant-loop-id l =
    (goal.iterator-loop-id).can_next l.id-iterator × ((goal.iterator-loop-id).is_finite l.id-iterator
    × ((rest : List (List ℕ))
    × (YieldsList (goal.iterator-loop-id).next_gives (λ x. x.now) l.id-iterator rest
    × Finding l.assets (split 59 l.ids) rest l.found.items)))
