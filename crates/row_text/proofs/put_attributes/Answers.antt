-- One behind the other.
use Rattle.writer.proofs.Laws.{put-append}
use Rattle.row_text.specs.Shown.{open_attributes}
use Rattle.row_text.proofs.put_attributes.Goals as goal

pub returns : goal.returns
unfolding open_attributes
returns c =
    rw c.item_of.ensures at
    (put-append c.put_bytes.ensures
    (put-append c.put_decimal.ensures
    (put-append c.put_bytes-2.ensures
    (put-append c.put_decimal-2.ensures (put-append c.put_bytes-3.ensures c.put_stamp.ensures)))))
