-- The items from j on decide whether all are items, and `changes` counts the asset change items below j.
use Rattle.spec.specs.Model.{components, item_word, is_change, item_ok, items_ok}
use Rattle.spec.specs.Words.{every, count_below}
use Prim.Native.Nat.{◌-◌, ◌≤◌}
use mathlib.Core.Path.{◌≡◌}
use Rattle.model.proofs.checks.items_ok.Given as goal

abbrev pub invariant-loop-j : goal.invariant-loop-j
invariant-loop-j l = record {
  few : l.changes ≤ l.j;
  rest : items_ok l.model l.names
      ≡ every (λ k. item_ok (components l.model) l.names (item_word l.model k)) (l.j-end - l.j) l.j;
  count : l.changes ≡ count_below (is_change l.model) l.j;
}
