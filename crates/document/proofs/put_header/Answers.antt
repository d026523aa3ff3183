-- The halves stand one behind the other.
use Rattle.writer.proofs.Laws.{put-append}
use Rattle.document.proofs.Laws.{put_is, header-text}
use Rattle.document.proofs.put_header.Goals as goal

pub returns : goal.returns
returns c =
    put_is (header-text _ _ _ _)
    (put-append c.put_given.ensures (put-append c.put_numbers.ensures c.put_bytes.ensures))
