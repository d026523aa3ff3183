-- Nothing for time 0.
use Rattle.line.proofs.Laws.{no-time, some-time}
use Rattle.writer.proofs.Laws.{put-none}
use native.Mathlib.Omega.{arith}
use Rattle.line.proofs.put_time.Goals as goal

pub returns-then-t-ne0 : goal.returns-then-t-ne0
returns-then-t-ne0 c =
    rw (some-time _ c.if-t-ne0.true) c.put_stamp.ensures

pub returns-else-t-ne0 : goal.returns-else-t-ne0
returns-else-t-ne0 c =
    rw (no-time _ c.if-t-ne0.false) (put-none _ (omega arith))
