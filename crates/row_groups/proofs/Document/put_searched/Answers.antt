use Prim.Native.Nat.{◌/◌}
use mathlib.Core.Path.{◌≡◌}
use native.Mathlib.Numerals.{add-one}
use native.Mathlib.Omega.{arith}
use Rattle.streams.specs.Streams.{groups}
use Rattle.row_groups.proofs.Laws.{number-small, pass-none, pass-more, pass_all}
use Rattle.row_groups.proofs.Document.put_searched.Goals as goal

pub loop-i-init : goal.loop-i-init
loop-i-init c =
    let d = c.args.self.now in
    pass-none d.model d.names c.args.c _ d.reply (omega arith)

pub put_if-requires : goal.put_if-requires
put_if-requires c =
    rw (← c.self.view_is) (omega (arith, c.rows-i-end.ensures.0, number-small c.args.g))

pub loop-i-preserved : goal.loop-i-preserved
loop-i-preserved c =
    let q = c.loop-i in
    let d = c.args.self.now in
    let own : c.slot_in-own.result / groups ≡ c.args.c = omega (arith, number-small c.args.g) in
    rw (add-one q.i)
    (pass-more d.model d.names c.args.c _ d.reply q.i (rw (← c.self.view_is) (omega (arith, c.rows-i-end.ensures.0)))
    q.invariant (rw own at c.put_if.ensures))

pub returns : goal.returns
returns c =
    let d = c.args.self.now in
    pass_all d.model d.names c.args.c _ d.reply c.loop-i.i
    (rw (← c.self.view_is) (omega (arith, c.rows-i-end.ensures.0))) c.loop-i.invariant
