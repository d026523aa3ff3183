-- The day and the time of day are those of the definition, and the rest is its arithmetic.
use Prim.Native.Nat.{ℕ, ◌/◌, ◌%◌}
use mathlib.Core.Path.{◌≡◌}
use native.Mathlib.Omega.{arith}
use Rattle.lines.specs.Stamps.{cycle_month, cycle_day, cycle_age, date_of}
use Rattle.calendar.proofs.date_of.Goals as goal

days : (s : ℕ) → s / 86400 ≡ s / 60 / 60 / 24
days s = omega arith

hour : (s : ℕ) → s % 86400 / 60 / 60 ≡ s / 60 / 60 % 24
hour s = omega arith

minute : (s : ℕ) → s % 86400 / 60 % 60 ≡ s / 60 % 60
minute s = omega arith

second : (s : ℕ) → s % 86400 % 60 ≡ s % 60
second s = omega arith

pub returns : goal.returns
unfolding cycle_month cycle_day cycle_age date_of
returns c =
    let s = c.args.t / 1000 in
    rw (
      c.from.ensures,
      c.from-2.ensures,
      c.from-3.ensures,
      c.from-4.ensures,
      c.from-5.ensures,
      c.from-6.ensures,
      hour s,
      minute s,
      second s,
      days s,
    )
