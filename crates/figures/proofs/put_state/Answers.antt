-- One behind the other.
use Rattle.lines.specs.Lines.{value_text}
use Rattle.writer.proofs.Laws.{put-append}
use Rattle.figures.proofs.put_state.Goals as goal

pub returns : goal.returns
unfolding value_text
returns c =
    put-append c.put_level.ensures
    (put-append c.put_byte.ensures
    (rw c.from.ensures at c.put_decimal.ensures))
