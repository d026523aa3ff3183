-- The pieces as they are counted, which is not their order in the row.
use mathlib.Core.Path.{refl}
use lib.ListN.{replicate}
use Rattle.streams.specs.Streams.{element_name}
use Rattle.writer.proofs.Laws.{put-append}
use Rattle.row_text.proofs.Laws.{Full, full-put, row-counted}
use Rattle.row_text.proofs.count_text_row.Goals as goal

pub skip-requires-2 : goal.skip-requires-2
skip-requires-2 c =
    let h : Full c.args.out.now = record { short = c.requires.short; full = c.requires.full } in
    let f = full-put h (c.skip.ensures (replicate 70 0) refl) in
    record { short = f.short; full = f.full }

pub skip-requires-3 : goal.skip-requires-3
skip-requires-3 c =
    let h : Full c.args.out.now = record { short = c.requires.short; full = c.requires.full } in
    let e = element_name c.args.t.now in
    let f = full-put h
    (put-append (c.skip.ensures (replicate 70 0) refl) (c.skip-2.ensures e c.element_length-n.ensures)) in
    record { short = f.short; full = f.full }

pub returns : goal.returns
returns c =
    let h : Full c.args.out.now = record { short = c.requires.short; full = c.requires.full } in
    let e = element_name c.args.t.now in
    row-counted e _ _ (rw c.word_of.ensures at c.decode.ensures) h
    (put-append (c.skip.ensures (replicate 70 0) refl)
    (put-append (c.skip-2.ensures e c.element_length-n.ensures)
    (put-append (c.skip-3.ensures e c.element_length-n.ensures)
    (put-append (rw c.item_of.ensures at c.put_decimal.ensures)
    (put-append c.put_decimal-2.ensures c.put_value.ensures)))))
