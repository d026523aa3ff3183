-- One behind the other.
use Rattle.writer.proofs.Laws.{put-append}
use Rattle.row_groups.proofs.put_tag.Goals as goal

pub returns : goal.returns
returns c =
    put-append c.put_bytes.ensures (put-append c.put_name.ensures c.put_bytes-2.ensures)
