-- The time of a line's stamp: malformed before an impossible date.
use Rattle.std.specs.Prelude.{ℕ, cond, List, Result, Ok, Err}
use Rattle.lines.specs.Lines.{stamp_formed, stamp_real, time_in}
use Rattle.lines.specs.declared.LineError.{LineError}
use Rattle.lines.specs.declared.LineError.TheVariants.{Malformed, BadStamp}

abbrev pub time_read : List ℕ → Result ℕ LineError
time_read s = cond (stamp_formed s) (cond (stamp_real s) (Ok (time_in s)) (Err BadStamp)) (Err Malformed)
