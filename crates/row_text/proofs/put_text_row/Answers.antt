-- One behind the other, the element twice.
use Rattle.writer.proofs.Laws.{put-append}
use Rattle.row_text.proofs.Laws.{text-put}
use Rattle.row_text.proofs.put_text_row.Goals as goal

pub returns : goal.returns
returns c =
    let start = rw (c.deref.ensures.0, c.element_of-name.ensures) at c.put_bytes.ensures in
    let end = rw (c.deref-2.ensures.0, c.element_of-name.ensures) at c.put_bytes-4.ensures in
    text-put _ _ _ (rw c.word_of.ensures at c.decode.ensures)
    (put-append c.put_byte.ensures
    (put-append start
    (put-append c.put_attributes.ensures
    (put-append c.put_bytes-2.ensures
    (put-append c.put_value.ensures
    (put-append c.put_bytes-3.ensures
    (put-append end c.put_bytes-5.ensures)))))))
