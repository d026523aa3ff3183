-- One behind the other.
use Rattle.streams.specs.Streams.{ended}
use Rattle.writer.proofs.Laws.{put-append}
use Rattle.document.proofs.put_start.Goals as goal

pub returns : goal.returns
unfolding ended
returns c =
    put-append c.put_bytes.ensures c.put_bytes-2.ensures
