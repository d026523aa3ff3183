-- One behind the other.
use Rattle.writer.proofs.Laws.{put-append}
use Rattle.document.proofs.Laws.{put_is, document-text}
use Rattle.document.proofs.put_document.Goals as goal

pub returns : goal.returns
returns c =
    rw (← c.d.view_is)
    (put_is (document-text _ _ _ _ _ _)
    (put-append c.put_start.ensures
    (put-append c.put_header.ensures
    (put-append (rw (← c.d.view_is) at c.put_streams.ensures) c.put_bytes.ensures))))
