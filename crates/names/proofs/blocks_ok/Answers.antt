use Rattle.std.proofs.lemmas.List.Concat.{concat_is}
use Rattle.names.proofs.CellLaws.{bytes_start, byte_more}
use Rattle.spec.proofs.Words.{every-kept}
use Rattle.names.specs.Cells.{cell_bytes}
use native.Mathlib.Omega.{arith}
use mathlib.Core.Path.{◌∙◌, sym, ap}
use Rattle.names.proofs.blocks_ok.Goals as goal

pub loop-x-init : goal.loop-x-init
loop-x-init c = bytes_start _

pub loop-x-preserved : goal.loop-x-preserved
loop-x-preserved c =
    let l = c.loop-x in
    byte_more _ l.fine _ l.x-index l.invariant (omega arith) c.cell_byte-fine.ensures

pub returns : goal.returns
returns c =
    every-kept _ _ _ _ _ c.loop-x.invariant (omega arith)
    ∙ ap cell_bytes (c.as_flattened-x-items.ensures.value ∙ sym (concat_is c.args.blocks.now))
