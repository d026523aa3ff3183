-- Nothing, or the point and the part behind it.
use Rattle.figures.proofs.Laws.{no-point, with-point}
use Rattle.writer.proofs.Laws.{put-none, put-append}
use native.Mathlib.Omega.{arith}
use Rattle.figures.proofs.put_point.Goals as goal

pub returns-then-p-ne0 : goal.returns-then-p-ne0
returns-then-p-ne0 c =
    rw (with-point _ c.if-p-ne0.true)
    (put-append c.put_byte.ensures
    c.put_part.ensures)

pub returns-else-p-ne0 : goal.returns-else-p-ne0
returns-else-p-ne0 c =
    rw (no-point _ c.if-p-ne0.false) (put-none _ (omega arith))
