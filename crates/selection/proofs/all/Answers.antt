-- All ones, shifted down to m of them.
use Rattle.spec.specs.Path.{any_item}
use Rattle.spec.proofs.Bits.{set-lt}
use Rattle.selection.proofs.Laws.{all-shifted}
use Rattle.selection.proofs.all.Goals as goal

pub returns : goal.returns
returns c =
    let e = all-shifted c.args.m c.requires.1 in
    (e, rw e (set-lt any_item c.args.m))
