-- The bytes of a pair are its two digits.
use Prim.Native.Nat.{ℕ, ◌+◌, ◌*◌, ◌/◌, ◌%◌, ◌<◌}
use mathlib.Core.Path.{◌≡◌}
use native.Mathlib.Omega.{arith}
use Rattle.lines.specs.Digits.{fixed}
use Rattle.lines.specs.Stamps.{date_text}
use Rattle.stamp.proofs.put_date.Goals as goal

-- what a pair is
abbrev paired : ℕ → ℕ
paired n = 48 + n / 10 + 256 * (48 + n % 10)

upper : {p b n : ℕ} → n < 100 → p ≡ paired n → b ≡ p % 256 → b ≡ 48 + n / 10 % 10
upper h e f = omega arith

lower : {p b n : ℕ} → n < 100 → p ≡ paired n → b ≡ p / 256 → b ≡ 48 + n % 10
lower h e f = omega arith

-- the year by its four digits
thousands : (y : ℕ) {b : ℕ} → b ≡ 48 + y / 1000 % 10 → b ≡ 48 + y / 10 / 10 / 10 % 10
thousands y e = omega arith

hundreds : (y : ℕ) {b : ℕ} → b ≡ 48 + y / 100 % 10 → b ≡ 48 + y / 10 / 10 % 10
hundreds y e = omega arith

year-tens : (y : ℕ) {p b : ℕ} → p ≡ paired (y % 100) → b ≡ p % 256 → b ≡ 48 + y / 10 % 10
year-tens y e f = omega (arith, upper {n = y % 100} (omega arith) e f)

year-ones : (y : ℕ) {p b : ℕ} → p ≡ paired (y % 100) → b ≡ p / 256 → b ≡ 48 + y % 10
year-ones y e f = omega (arith, lower {n = y % 100} (omega arith) e f)

pub returns : goal.returns
unfolding fixed date_text
returns c =
    let d = c.args.d in
    let h = c.requires in
    let centi : d.milli / 10 < 100 = omega (arith, h.milli) in
    rw (
      thousands d.year c.digit.ensures,
      hundreds d.year c.digit-2.ensures,
      year-tens d.year c.pair-year.ensures c.tens.ensures,
      year-ones d.year c.pair-year.ensures c.ones.ensures,
      upper h.month c.pair-month.ensures c.tens-2.ensures,
      lower h.month c.pair-month.ensures c.ones-2.ensures,
      upper h.day c.pair-day.ensures c.tens-3.ensures,
      lower h.day c.pair-day.ensures c.ones-3.ensures,
      upper h.hour c.pair-hour.ensures c.tens-4.ensures,
      lower h.hour c.pair-hour.ensures c.ones-4.ensures,
      upper h.minute c.pair-minute.ensures c.tens-5.ensures,
      lower h.minute c.pair-minute.ensures c.ones-5.ensures,
      upper h.second c.pair-second.ensures c.tens-6.ensures,
      lower h.second c.pair-second.ensures c.ones-6.ensures,
      upper centi c.pair-centi.ensures c.tens-7.ensures,
      lower centi c.pair-centi.ensures c.ones-7.ensures,
      c.digit-3.ensures,
    ) at c.put_bytes.ensures
