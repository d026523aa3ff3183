-- One behind the other.
use Rattle.writer.proofs.Laws.{put-append}
use Rattle.row_text.proofs.Laws.{condition-put}
use Rattle.row_text.proofs.put_condition_row.Goals as goal

pub returns : goal.returns
returns c =
    condition-put _ _ _ (rw c.word_of.ensures at c.decode-v.ensures)
    (put-append c.put_byte.ensures
    (put-append c.put_state.ensures
    (put-append c.put_attributes.ensures
    (put-append c.put_text.ensures
    (put-append c.put_native.ensures c.put_bytes.ensures)))))
