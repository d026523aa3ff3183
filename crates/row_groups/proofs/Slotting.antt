-- A row's item has a slot: that of a component's group where the row stands in it, and only there.
use Prim.Native.Nat.{ℕ, zero, suc, ◌<◌, ◌/◌, ◌%◌}
use mathlib.Core.Path.{◌≡◌, ap, ◌∙◌}
use mathlib.Core.Bool.{true}
use mathlib.Core.List.{List}
use native.Mathlib.Omega.{arith}
use lib.ListN.{get_or}
use Rattle.spec.specs.Value.{item_of}
use Rattle.spec.specs.Model.{items, item_word, category_of}
use Rattle.streams.specs.Streams.{group_of, reply_ok, groups}
use Rattle.streams.proofs.Rows.{row_at}
use Rattle.row_groups.specs.Lists.{reply_row, Stands}
use Rattle.row_groups.specs.Slots.{own_slot, Slotted}
use Rattle.row_groups.proofs.Laws.{own-item}

group-small : (k : ℕ) → group_of k < groups
group-small zero = omega arith
group-small (suc zero) = omega arith
group-small (suc (suc zero)) = omega arith
group-small (suc (suc (suc k))) = omega arith

-- row i's item j has the slot of the group that the row stands in
module _ (model reply : List ℕ) (h : reply_ok model reply ≡ true) {slots : List ℕ}
    (S : Slotted model (items model) slots) (i : ℕ) (l : i < get_or reply 0 0) {w j : ℕ}
    (ew : w ≡ get_or (row_at reply i) 2 0) (ej : j ≡ item_of w) where
  slot-at : get_or slots j 0 ≡ own_slot (item_word model (reply_row reply i).item)
  slot-at =
      S.at j (own-item model reply i ew ej h l)
      ∙ ap (λ (k : ℕ). own_slot (item_word model k)) (ej ∙ ap item_of ew)

  -- component own / groups and group g have the slot `own`
  module _ {own g : ℕ} (m : own % groups ≡ g) where
    pub slot-own : get_or slots j 0 ≡ own → Stands model reply (own / groups) g i
    slot-own e =
        let small = group-small (category_of (item_word model (reply_row reply i).item)) in
        record { component = omega (arith, slot-at, small); group = omega (arith, slot-at, small) }

    pub slot-other : (get_or slots j 0 ≡ own → ⊥) → Stands model reply (own / groups) g i → ⊥
    slot-other n s = n (omega (arith, slot-at, s.component, s.group))
