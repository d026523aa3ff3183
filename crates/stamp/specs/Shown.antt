-- A date whose fields have as many digits as a stamp shows of them: two, and the milliseconds three. Of a year the last
-- four are shown, however many it has.
use Rattle.std.specs.Prelude.{◌<◌}
use Rattle.lines.specs.declared.Date.{Date}

pub record Shown (d : Date) : Type 0 where
  pub month : d.month < 100
  pub day : d.day < 100
  pub hour : d.hour < 100
  pub minute : d.minute < 100
  pub second : d.second < 100
  pub milli : d.milli < 1000
