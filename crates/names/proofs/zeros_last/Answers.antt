use Rattle.std.proofs.Common.{rules}
use Rattle.std.specs.Slice.Iter.{windows_rest}
use Rattle.std.specs.Slice.ArrayWindows.{array_windows_parts}
use Rattle.names.proofs.CellLaws.{pairing-none, pairing-more, pairing-all}
use Rattle.names.proofs.zeros_last.Goals as goal

pub loop-a-init : goal.loop-a-init
loop-a-init c = (search rules, pairing-none _ _ (search rules))

pub loop-a-preserved : goal.loop-a-preserved
loop-a-preserved c =
    let l = c.loop-a in
    let h = rw c.in-Some.is at c.next.ensures.steps in (
      search rules,
      pairing-more l.invariant.1 c.in-Some.field-0.now (windows_rest (array_windows_parts c.next.new.self)) (search rules)
          (search rules) (search rules) _ c.follows-fine.ensures,
    )

pub returns : goal.returns
returns c = pairing-all c.loop-a.invariant.1 (search rules)
