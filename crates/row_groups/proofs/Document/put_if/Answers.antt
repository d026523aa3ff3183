-- The row's line, or nothing of another component or group.
use native.Mathlib.Omega.{arith}
use Rattle.streams.proofs.Rows.{row_at}
use Rattle.row_groups.proofs.Laws.{own-item, line-none, line-put}
use Rattle.row_groups.proofs.Slotting.{slot-own, slot-other}
use Rattle.row_groups.proofs.Document.put_if.Goals as goal

-- the row's item is one of the model's
pub bounds-self-inside-item_of : goal.bounds-self-inside-item_of
bounds-self-inside-item_of c =
    let d = c.self.inside in
    let known = c.self.invariant.documented in
    let item =
    own-item d.model.words d.reply c.args.i c.row_at.ensures.packed c.item_of.ensures
    known.accepted (rw (← c.self.view_is) at c.requires.there) in
    omega (arith, item, known.checked.sizes.m_max)

pub returns-then-self-item_of : goal.returns-then-self-item_of
returns-then-self-item_of c =
    let d = c.self.inside in
    let i = c.self.invariant in
    let own =
    slot-own d.model.words d.reply i.documented.accepted i.slotted c.args.i (rw (← c.self.view_is) at c.requires.there)
    c.row_at.ensures.packed c.item_of.ensures c.requires.group c.if-self-item_of.true in
    rw (← c.self.view_is)
    (line-put d.model.words d.model.names.now _ _ (row_at d.reply c.args.i) own.component own.group
    (rw (← c.self.view_is) at c.put_row.ensures))

pub returns-else-self-item_of : goal.returns-else-self-item_of
returns-else-self-item_of c =
    let d = c.self.inside in
    let i = c.self.invariant in
    rw (← c.self.view_is)
    (line-none d.model.words d.model.names.now _ _ (row_at d.reply c.args.i)
    (λ p q.
    slot-other d.model.words d.reply i.documented.accepted i.slotted c.args.i
    (rw (← c.self.view_is) at c.requires.there) c.row_at.ensures.packed c.item_of.ensures c.requires.group
    c.if-self-item_of.false (record { component = p; group = q }))
    (omega arith))
