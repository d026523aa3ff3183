-- The date is that of the time, whose fields have the digits that are shown.
use Prim.Native.Nat.{ℕ}
use mathlib.Core.Path.{sym}
use native.Mathlib.Omega.{arith}
use Rattle.lines.specs.Stamps.{cycle_month, cycle_day, date_of, stamp_text}
use Rattle.lines.proofs.Stamps.{text-length}
use Rattle.stamp.specs.Shown.{Shown}
use Rattle.stamp.proofs.put_stamp.Goals as goal

date-shown : (t : ℕ) → Shown (date_of t)
unfolding date_of cycle_month cycle_day
date-shown t =
    record {
      month = omega arith;
      day = omega arith;
      hour = omega arith;
      minute = omega arith;
      second = omega arith;
      milli = omega arith;
    }

pub put_date-requires : goal.put_date-requires
put_date-requires c =
    rw c.date_of.ensures (date-shown c.args.t)

pub returns-then-is_full : goal.returns-then-is_full
returns-then-is_full c = c.skip.ensures (stamp_text c.args.t) (sym (text-length (date_of c.args.t)))

pub returns : goal.returns
returns c =
    rw (sym c.date_of.ensures) c.put_date.ensures
