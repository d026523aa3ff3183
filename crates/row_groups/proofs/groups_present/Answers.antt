use mathlib.Core.Path.{refl, ◌∙◌}
use native.Mathlib.Numerals.{add-one}
use native.Mathlib.Omega.{arith}
use Rattle.row_groups.proofs.Laws.{own-item, own-word, marked-none, marking-more, marking-all}
use Rattle.row_groups.proofs.groups_present.Goals as goal

pub loop-i-init : goal.loop-i-init
loop-i-init c = marked-none _

-- the row's item is one of the model's
pub home_of-c-requires : goal.home_of-c-requires
home_of-c-requires c =
    let a = c.args in
    own-item a.model.now a.reply.now c.loop-i.i c.row_at.ensures.packed c.item_of-item.ensures
    c.requires.accepted (omega (arith, c.rows-i-end.ensures.0))

pub loop-i-preserved : goal.loop-i-preserved
loop-i-preserved c =
    let a = c.args in
    let q = c.loop-i in
    rw (add-one q.i)
    (marking-more a.model.now a.reply.now q.i (omega (arith, c.rows-i-end.ensures.0)) q.invariant _ _ _
    (own-word a.model.now a.reply.now q.i c.row_at.ensures.packed c.item_of-item.ensures refl)
    c.home_of-c.ensures.component (c.slot_of.ensures.0 ∙ c.home_of-c.ensures.group))

pub returns : goal.returns
returns c = marking-all _ c.args.reply.now c.loop-i.i (omega (arith, c.rows-i-end.ensures.0)) c.loop-i.invariant
