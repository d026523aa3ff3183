use native.Mathlib.Numerals.{add-one}
use native.Mathlib.Omega.{arith}
use Rattle.row_groups.specs.Groups.{reply_rows}
use Rattle.components_text.proofs.Laws.{components-none, components-more, components-all}
use Rattle.components_text.proofs.put_components.Goals as goal

pub loop-c-init : goal.loop-c-init
loop-c-init c =
    let d = c.args.d.now in
    components-none d.model d.names (reply_rows d.reply) (omega arith)

pub put_component-requires : goal.put_component-requires
put_component-requires c =
    rw (← c.d.view_is) (omega (arith, c.components-c-end.ensures.0))

pub loop-c-preserved : goal.loop-c-preserved
loop-c-preserved c =
    let q = c.loop-c in
    let d = c.args.d.now in
    rw (add-one q.c)
    (components-more d.model d.names (reply_rows d.reply) q.c q.invariant c.put_component.ensures)

pub returns : goal.returns
returns c =
    let d = c.args.d.now in
    components-all d.model d.names (reply_rows d.reply) c.loop-c.c
    (rw (← c.d.view_is) (omega (arith, c.components-c-end.ensures.0))) c.loop-c.invariant
