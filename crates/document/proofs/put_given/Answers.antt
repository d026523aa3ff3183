-- One behind the other.
use Rattle.writer.proofs.Laws.{put-append}
use Rattle.document.proofs.Laws.{put_is, given-text}
use Rattle.document.proofs.put_given.Goals as goal

pub returns : goal.returns
returns c =
    put_is (given-text _ _ _)
    (put-append c.put_time.ensures (put-append c.put_number.ensures c.put_number-2.ensures))
