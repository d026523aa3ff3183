-- One behind the other.
use Rattle.writer.proofs.Laws.{put-append}
use Rattle.document.proofs.Laws.{put_is, numbers-text}
use Rattle.document.proofs.put_numbers.Goals as goal

pub returns : goal.returns
returns c =
    put_is (numbers-text _ _ _)
    (rw (c.next.ensures, c.first.ensures, c.last.ensures) at
    (put-append c.put_number.ensures (put-append c.put_number-2.ensures c.put_number-3.ensures)))
