use native.Mathlib.Omega.{arith}
use Rattle.streams.specs.Groups.{group_number}
use Rattle.row_groups.proofs.Laws.{number-small, pass-none, pass_all}
use Rattle.row_groups.proofs.Listing.{reach, reach-more}
use Rattle.row_groups.proofs.Document.put_listed.Goals as goal

pub loop-i-init : goal.loop-i-init
loop-i-init c =
    let d = c.self.inside in
    let i = c.self.invariant in
    let g = group_number c.args.g in
    let listed = i.listed (rw (← c.self.view_is) at c.requires.few) in
    rw (← c.self.view_is, c.slot_of.ensures.0)
    (reach d.model.words d.model.names.now d.reply c.args.c g 0 _ (omega arith)
    (listed.starts c.args.c g c.requires.there (number-small c.args.g))
    (pass-none d.model.words d.model.names.now c.args.c g d.reply (omega arith)))

pub loop-i-preserved : goal.loop-i-preserved
loop-i-preserved c =
    let d = c.self.inside in
    let q = c.loop-i in
    rw (← c.self.view_is)
    (reach-more d.model.words d.model.names.now d.reply c.args.c _ q.i (omega arith)
    (c.self.invariant.listed (rw (← c.self.view_is) at c.requires.few))
    (rw (← c.self.view_is) at q.invariant) (rw (← c.self.view_is) at c.put_row.ensures))

pub returns : goal.returns
returns c =
    let d = c.args.self.now in
    pass_all d.model d.names c.args.c _ d.reply c.loop-i.i (rw (← c.self.view_is) (omega (arith, c.rows-k.ensures.0)))
    c.loop-i.invariant.lines
