-- One behind the other.
use Rattle.writer.proofs.Laws.{put-append}
use Rattle.attributes.proofs.put_attribute.Goals as goal

pub returns : goal.returns
returns g c =
    put-append c.put_bytes.ensures (put-append (c.requires.1.1 _ _ c.put.ensures) c.put_byte.ensures)
