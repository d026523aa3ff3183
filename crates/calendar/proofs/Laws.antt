-- The calendar as the code counts it.
use Prim.Native.Nat.{ℕ, ◌+◌, ◌-◌, ◌*◌, ◌/◌, ◌%◌, ◌≤◌}
use mathlib.Core.Path.{◌≡◌}
use mathlib.Core.Bool.{true}
use native.Mathlib.Omega.{arith}
use Rattle.lines.specs.Stamps.{leap, real_date, day_number}
use Rattle.lines.specs.declared.Date.{Date}
use Rattle.lines.proofs.Stamps.{real-bounds, month-max, begun, day_in, day-split}

-- the day from March on as the code has it
abbrev pub counted : Date → ℕ
counted d =
    let a = d.year - 1968 - (14 - d.month) / 12 in
    a / 4 * 1461 + (365 * (a % 4) + (153 * ((d.month + 9) % 12) + 2) / 5 + (d.day - 1))

-- Of a real date, the bounds of the sums, each by itself: grind takes no field out of the record that real-bounds gives
-- (tried with it in their place: it leaves twelve goals open).
module _ (d : Date) (h : real_date d ≡ true) where
  pub year-from : 1970 ≤ d.year
  year-from = (real-bounds d h).year-from

  pub year-to : d.year ≤ 2099
  year-to = (real-bounds d h).year-to

  pub month-from : 1 ≤ d.month
  month-from = (real-bounds d h).month-from

  pub month-to : d.month ≤ 12
  month-to = (real-bounds d h).month-to

  pub day-from : 1 ≤ d.day
  day-from = (real-bounds d h).day-from

  pub day-to : d.day ≤ 31
  day-to = omega (arith, real-bounds d h, month-max (leap d.year) d.month)

  pub hour-to : d.hour ≤ 23
  hour-to = (real-bounds d h).hour-to

  pub minute-to : d.minute ≤ 59
  minute-to = (real-bounds d h).minute-to

  pub second-to : d.second ≤ 59
  second-to = (real-bounds d h).second-to

  pub milli-to : d.milli ≤ 999
  milli-to = (real-bounds d h).milli-to

  pub counted-is : counted d ≡ day_number d.year d.month d.day + 671
  counted-is =
      let b = real-bounds d h in
      let s = day-split d.year d.month d.day b.year-from b.month-from b.month-to in
      omega arith

  pub day-number-to : day_number d.year d.month d.day ≤ 100000
  day-number-to =
      let b = real-bounds d h in
      let k = day-to in
      let s = day-split d.year d.month d.day b.year-from b.month-from b.month-to in
      let t = top (d.year - 1968 - begun d.month) (omega arith) k in
      omega arith
    where
      top : (a : ℕ) → a ≤ 131 → d.day ≤ 31 → a / 4 * 1461 + day_in (a % 4) d.month d.day ≤ 100000
      top a h k = omega arith

pub ruleset real_dates = (year-from, year-to, month-from, month-to, day-from, day-to, hour-to, minute-to, second-to, milli-to, counted-is, day-number-to)
