-- One behind the other.
use Rattle.lines.specs.Lines.{line_of}
use Rattle.writer.proofs.Laws.{put-append}
use Rattle.line.proofs.put_line.Goals as goal

pub returns : goal.returns
unfolding line_of
returns c =
    put-append c.put_time.ensures
    (put-append c.put_byte.ensures
    (put-append c.put_decimal.ensures (put-append c.put_byte-2.ensures c.put_value.ensures)))
