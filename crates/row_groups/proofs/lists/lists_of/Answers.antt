use Prim.Native.Nat.{◌-◌}
use mathlib.Core.Path.{◌≡◌, refl, ◌∙◌}
use native.Mathlib.Omega.{arith}
use Rattle.row_groups.proofs.Laws.{own-item, own-word}
use Rattle.row_groups.proofs.Listing.{listed-none, listing-more}
use Rattle.row_groups.proofs.lists.lists_of.Goals as goal

pub loop-i-init : goal.loop-i-init
loop-i-init c = listed-none _ _ _ (omega arith)

-- the row's item is one of the model's
pub home_of-c-requires : goal.home_of-c-requires
home_of-c-requires c =
    let a = c.args in
    own-item a.model.now a.reply.now (c.loop-i.i - 1) c.row_at.ensures.packed c.item_of-item.ensures
    c.requires.accepted (omega arith)

pub loop-i-preserved : goal.loop-i-preserved
loop-i-preserved c =
    let a = c.args in
    let q = c.loop-i in
    let placed = c.requires in
    let item =
    own-item a.model.now a.reply.now (q.i - 1) c.row_at.ensures.packed c.item_of-item.ensures
    placed.accepted (omega arith) in
    listing-more a.model.now a.reply.now q.i (omega arith) (omega arith) (omega arith) q.invariant _ _ _
    (own-word a.model.now a.reply.now (q.i - 1) c.row_at.ensures.packed c.item_of-item.ensures refl)
    c.home_of-c.ensures.component (c.slot_of-slot.ensures.0 ∙ c.home_of-c.ensures.group)
    (omega (arith, c.home_of-c.ensures.component, placed.component c.item_of-item.result item, placed.sizes.c_max))
    (omega arith)

pub returns : goal.returns
returns c =
    let z : c.loop-i.i ≡ 0 = omega arith in
    λ h. rw z at c.loop-i.invariant
