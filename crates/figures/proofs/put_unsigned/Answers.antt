-- One behind the other.
use Rattle.writer.proofs.Laws.{put-append}
use Rattle.figures.proofs.put_unsigned.Goals as goal

pub returns : goal.returns
returns c =
    put-append c.put_decimal.ensures
    c.put_point.ensures
