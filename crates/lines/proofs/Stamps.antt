-- Time stamps back: a time from its date, a date from its time, and both from the 24 bytes.
use Prim.Native.Nat.{ℕ, ◌+◌, ◌-◌, ◌*◌, ◌/◌, ◌%◌, ◌≤◌, ◌<◌}
use mathlib.Core.Path.{◌≡◌, refl, sym, ap, ◌∙◌}
use mathlib.Core.Bool.{Bool, true, false, cond, ◌&&◌}
use native.Mathlib.Omega.{arith}
use lib.Arith.{digits_div, digits_mod}
use lib.ListN.{length}
use lib.Dec.{leb, ltb, eqb}
use borrow.Author.Tests.{ltb-true, ltb-false, leb-true, eqb-true, eqb-false, le-leb}
use Rattle.spec.specs.Words.{every}
use Rattle.spec.specs.Bytes.{all, digit}
use Rattle.lines.specs.Digits.{fixed}
use Rattle.lines.specs.Stamps.{leap, month_length, month_start, real_date, day_number, time_of, max_time, cycle_year}
use Rattle.lines.specs.Stamps.{cycle_month, cycle_day, cycle_age, date_of, formed, stamp_form, date_in, date_text}
use Rattle.lines.specs.declared.Date.{Date}
use Rattle.std.proofs.lemmas.Bool.{and_parts}
use Rattle.spec.proofs.Words.{every-at}
use Rattle.spec.proofs.Bytes.{all_append, all-imp}
use Rattle.spec.proofs.Digits.{digit-is}
use Rattle.lines.proofs.Digits.{fixed-digits, fixed-value}

-- ---- four years from March on, by a test of each day

-- the days from March on before month m
abbrev pub march_start : ℕ → ℕ
march_start m = (153 * ((m + 9) % 12) + 2) / 5

-- day d of month m of year k of the four
abbrev pub day_in : ℕ → ℕ → ℕ → ℕ
day_in k m d = 365 * k + march_start m + (d - 1)

-- January and February are the next year's
abbrev pub begun : ℕ → ℕ
begun m = (14 - m) / 12

-- every-at from 0 on, shorter at its eleven uses
each : (p : ℕ → Bool) (n : ℕ) → every p n 0 ≡ true → (i : ℕ) → i < n → p i ≡ true
each p n e i h = every-at p n 0 i e (omega arith) (omega arith)

-- what each day of the four years is
record DayOf (r : ℕ) : Type 0 where
  year-lt : cycle_year r < 4
  age : cycle_age r ≡ cycle_year r + begun (cycle_month r)
  month-low : 1 ≤ cycle_month r
  month-high : cycle_month r ≤ 12
  day-low : 1 ≤ cycle_day r
  day-high : cycle_day r ≤ month_length (leap (cycle_age r)) (cycle_month r)
  back : day_in (cycle_year r) (cycle_month r) (cycle_day r) ≡ r
  late : 671 ≤ r → 2 ≤ cycle_age r
  age-le : cycle_age r ≤ 4
  soon : r ≤ 1400 → cycle_age r ≤ 3

abbrev short : ℕ → Bool
short r = leb (cycle_day r) (month_length (leap (cycle_age r)) (cycle_month r))

-- 1970-01-01 is day 671 of the first four years; the last day of 2099 is day 1,400 of its four
abbrev from-1970 : ℕ → Bool
from-1970 r = cond (leb 671 r) (leb 2 (cycle_age r)) true

abbrev to-2099 : ℕ → Bool
to-2099 r = cond (leb r 1400) (leb (cycle_age r) 3) true

day-of : (r : ℕ) → r < 1461 → DayOf r
unfolding every cycle_month cycle_day cycle_age month_length
day-of r h = record {
  year-lt = ltb-true _ _ (each (λ r. ltb (cycle_year r) 4) 1461 refl r h);
  age = eqb-true _ _ (each (λ r. eqb (cycle_age r) (cycle_year r + begun (cycle_month r))) 1461 refl r h);
  month-low = leb-true _ _ (each (λ r. leb 1 (cycle_month r)) 1461 refl r h);
  month-high = leb-true _ _ (each (λ r. leb (cycle_month r) 12) 1461 refl r h);
  day-low = leb-true _ _ (each (λ r. leb 1 (cycle_day r)) 1461 refl r h);
  day-high = leb-true _ _ (each short 1461 refl r h);
  back = eqb-true _ _ (each (λ r. eqb (day_in (cycle_year r) (cycle_month r) (cycle_day r)) r) 1461 refl r h);
  late = λ l. leb-true _ _ (rw (le-leb 671 r l) at (each from-1970 1461 refl r h));
  age-le = leb-true _ _ (each (λ r. leb (cycle_age r) 4) 1461 refl r h);
  soon = λ l. leb-true _ _ (rw (le-leb r 1400 l) at (each to-2099 1461 refl r h));
}

-- a date of these years, and its day among the 1,461
record DateIn (k m d : ℕ) : Type 0 where
  fits : day_in k m d < 1461
  year : cycle_year (day_in k m d) ≡ k
  month : cycle_month (day_in k m d) ≡ m
  day : cycle_day (day_in k m d) ≡ d

abbrev here : (ℕ → ℕ → ℕ → Bool) → ℕ → Bool
here p i =
    let k = i / 372 in
    let m = i / 31 % 12 + 1 in
    let d = i % 31 + 1 in
    cond (leb d (month_length (leap (k + begun m)) m)) (p k m d) true

-- what a test of each date says of one
each-date : (p : ℕ → ℕ → ℕ → Bool) → every (here p) 1488 0 ≡ true → (k m d : ℕ) → k < 4
    → 1 ≤ m → m ≤ 12 → 1 ≤ d → d ≤ 31
    → d ≤ month_length (leap (k + begun m)) m → p k m d ≡ true
each-date p e k m d hk m1 m2 d1 d2 l =
    let i = (k * 12 + (m - 1)) * 31 + (d - 1) in
    let q : i / 31 ≡ k * 12 + (m - 1) = digits_div (k * 12 + (m - 1)) (omega arith) in
    let a : i / 372 ≡ k = omega arith in
    let b : i / 31 % 12 + 1 ≡ m = rw q (omega (arith, digits_mod k {m = 12} {r = m - 1} (omega arith))) in
    let c : i % 31 + 1 ≡ d = omega (arith, digits_mod (k * 12 + (m - 1)) {m = 31} {r = d - 1} (omega arith)) in
    rw (a, b, c, le-leb _ _ l) at (each (here p) 1488 e i (omega arith))

-- no month is longer than 31 days
pub month-max : (long : Bool) (m : ℕ) → month_length long m ≤ 31
unfolding month_length
month-max long m = go long (eqb m 2)
  where
    go : (long t : Bool) → cond t (cond long 29 28) (30 + (m + m / 8) % 2) ≤ 31
    go true true = omega arith
    go false true = omega arith
    go long false = omega arith

date-in : (k m d : ℕ) → k < 4 → 1 ≤ m → m ≤ 12 → 1 ≤ d → d ≤ month_length (leap (k + begun m)) m
    → DateIn k m d
unfolding every cycle_month cycle_day month_length
date-in k m d hk m1 m2 d1 l =
    let d2 : d ≤ 31 = omega (arith, month-max (leap (k + begun m)) m) in
    record {
      fits = ltb-true _ _ (each-date (λ k m d. ltb (day_in k m d) 1461) refl k m d hk m1 m2 d1 d2 l);
      year = eqb-true _ _ (each-date (λ k m d. eqb (cycle_year (day_in k m d)) k) refl k m d hk m1 m2 d1 d2 l);
      month = eqb-true _ _ (each-date (λ k m d. eqb (cycle_month (day_in k m d)) m) refl k m d hk m1 m2 d1 d2 l);
      day = eqb-true _ _ (each-date (λ k m d. eqb (cycle_day (day_in k m d)) d) refl k m d hk m1 m2 d1 d2 l);
    }

-- ---- days

-- the months from March on, against those from January on
abbrev marched : Bool → ℕ → Bool
marched long m = eqb (month_start long m + 306) (march_start m + (1 - begun m) * cond long 366 365)

month-march : (long : Bool) (m : ℕ) → 1 ≤ m → m ≤ 12
    → month_start long m + 306 ≡ march_start m + (1 - begun m) * cond long 366 365
unfolding every month_start month_length
month-march true m h k = eqb-true _ _ (every-at (marched true) 12 1 m refl h (omega arith))
month-march false m h k = eqb-true _ _ (every-at (marched false) 12 1 m refl h (omega arith))

-- a date in January or February, in a later month of a leap year, and of another year: x days before its month from
-- January on are z from March on
early : (y x z e : ℕ) → 1970 ≤ y → x + 306 ≡ z
    → 365 * (y - 1970) + (y - 1969) / 4 + x + e + 671
    ≡ (y - 1968 - 1) / 4 * 1461 + (365 * ((y - 1968 - 1) % 4) + z + e)
early y x z e h k = omega arith

later-long : (y x z e : ℕ) → 1970 ≤ y → y % 4 ≡ 0 → x + 306 ≡ z + 366
    → 365 * (y - 1970) + (y - 1969) / 4 + x + e + 671
    ≡ (y - 1968 - 0) / 4 * 1461 + (365 * ((y - 1968 - 0) % 4) + z + e)
later-long y x z e h l k =
    let a : (y - 1968) % 4 ≡ 0 = omega arith in
    let c : (y - 1969) / 4 + 1 ≡ (y - 1968) / 4 = omega arith in
    omega arith

later : (y x z e : ℕ) → 1970 ≤ y → (y % 4 ≡ 0 → ⊥) → x + 306 ≡ z + 365
    → 365 * (y - 1970) + (y - 1969) / 4 + x + e + 671
    ≡ (y - 1968 - 0) / 4 * 1461 + (365 * ((y - 1968 - 0) % 4) + z + e)
later y x z e h l k =
    let c : (y - 1969) / 4 ≡ (y - 1968) / 4 = omega arith in
    omega arith

-- the day from 1968-03-01 on of a date
pub day-split : (y m d : ℕ) → 1970 ≤ y → 1 ≤ m → m ≤ 12
    → day_number y m d + 671 ≡ (y - 1968 - begun m) / 4 * 1461 + day_in ((y - 1968 - begun m) % 4) m d
unfolding day_number
day-split y m d hy m1 m2 = go (ltb m 3) refl (eqb (y % 4) 0) refl (month-march (leap y) m m1 m2)
  where
    go : (t : Bool) → ltb m 3 ≡ t → (long : Bool) → eqb (y % 4) 0 ≡ long
        → month_start long m + 306 ≡ march_start m + (1 - begun m) * cond long 366 365
        → 365 * (y - 1970) + (y - 1969) / 4 + month_start long m + (d - 1) + 671
        ≡ (y - 1968 - begun m) / 4 * 1461 + day_in ((y - 1968 - begun m) % 4) m d
    go true e long el h =
        let b : begun m ≡ 1 = omega (arith, ltb-true m 3 e) in
        let k = rw b at h in
        rw b (early y (month_start long m) (march_start m) (d - 1) hy (omega arith))
    go false e true el h =
        let b : begun m ≡ 0 = omega (arith, ltb-false m 3 e) in
        let k = rw b at h in
        rw b (later-long y (month_start true m) (march_start m) (d - 1) hy (eqb-true (y % 4) 0 el) (omega arith))
    go false e false el h =
        let b : begun m ≡ 0 = omega (arith, ltb-false m 3 e) in
        let k = rw b at h in
        rw b (later y (month_start false m) (march_start m) (d - 1) hy (eqb-false (y % 4) 0 el) (omega arith))

-- ---- time and date

leap-cycle : (c k : ℕ) → leap (1968 + 4 * c + k) ≡ leap k
leap-cycle c k = ap (λ (x : ℕ). eqb x 0) (let e : (1968 + 4 * c + k) % 4 ≡ k % 4 = omega arith in e)

-- the year of day n from 1968-03-01 on
abbrev year_at : ℕ → ℕ
year_at n = 1968 + 4 * (n / 1461) + cycle_age (n % 1461)

year-low : (n : ℕ) → 671 ≤ n → 1970 ≤ year_at n
year-low n h = go (ltb n 1461) refl
  where
    go : (t : Bool) → ltb n 1461 ≡ t → 1970 ≤ year_at n
    go true e = omega (arith, (day-of (n % 1461) (omega arith)).late (omega (arith, ltb-true n 1461 e)))
    go false e = omega (arith, ltb-false n 1461 e)

day-back : (n : ℕ) → 671 ≤ n → day_number (year_at n) (cycle_month (n % 1461)) (cycle_day (n % 1461)) + 671 ≡ n
day-back n h =
    let r = n % 1461 in
    let f = day-of r (omega arith) in
    let a : year_at n - 1968 - begun (cycle_month r) ≡ n / 1461 * 4 + cycle_year r = omega (arith, f.age) in
    let s = rw (a, digits_div (n / 1461) f.year-lt, digits_mod (n / 1461) f.year-lt, f.back)
    at (day-split (year_at n) (cycle_month r) (cycle_day r) (year-low n h) f.month-low f.month-high) in
    omega arith

-- a time is back from its date
pub time-back : (t : ℕ) → time_of (date_of t) ≡ t
unfolding time_of date_of
time-back t =
    let b = day-back (t / 1000 / 60 / 60 / 24 + 671) (omega arith) in
    omega arith

-- the bounds of a real date's fields
pub record Real (d : Date) : Type 0 where
  pub year-from : 1970 ≤ d.year
  pub year-to : d.year ≤ 2099
  pub month-from : 1 ≤ d.month
  pub month-to : d.month ≤ 12
  pub day-from : 1 ≤ d.day
  pub day-to : d.day ≤ month_length (leap d.year) d.month
  pub hour-to : d.hour ≤ 23
  pub minute-to : d.minute ≤ 59
  pub second-to : d.second ≤ 59
  pub milli-to : d.milli ≤ 999

pub real-bounds : (d : Date) → real_date d ≡ true → Real d
unfolding real_date
real-bounds d h =
    let y = and_parts (leb 1970 d.year && leb d.year 2099) _ h in
    let m = and_parts (leb 1 d.month && leb d.month 12) _ y.1 in
    let a = and_parts (leb 1 d.day && leb d.day _) _ m.1 in
    let t = and_parts (leb d.hour 23) _ a.1 in
    let i = and_parts (leb d.minute 59) _ t.1 in
    let s = and_parts (leb d.second 59) _ i.1 in
    let y2 = and_parts (leb 1970 d.year) _ y.0 in
    let m2 = and_parts (leb 1 d.month) _ m.0 in
    let a2 = and_parts (leb 1 d.day) _ a.0 in
    record {
      year-from = leb-true _ _ y2.0;
      year-to = leb-true _ _ y2.1;
      month-from = leb-true _ _ m2.0;
      month-to = leb-true _ _ m2.1;
      day-from = leb-true _ _ a2.0;
      day-to = leb-true _ _ a2.1;
      hour-to = leb-true _ _ t.0;
      minute-to = leb-true _ _ i.0;
      second-to = leb-true _ _ s.0;
      milli-to = leb-true _ _ s.1;
    }

pub bounds-real : (d : Date) → Real d → real_date d ≡ true
unfolding real_date
bounds-real d r =
    rw (
      le-leb 1970 _ r.year-from,
      le-leb _ 2099 r.year-to,
      le-leb 1 _ r.month-from,
      le-leb _ 12 r.month-to,
      le-leb 1 _ r.day-from,
      le-leb _ _ r.day-to,
      le-leb _ 23 r.hour-to,
      le-leb _ 59 r.minute-to,
      le-leb _ 59 r.second-to,
      le-leb _ 999 r.milli-to,
    )

-- every time up to the end of 2099 has a real date
pub date-real : (t : ℕ) → t ≤ max_time → real_date (date_of t) ≡ true
unfolding date_of
date-real t h = bounds-real (date_of t) (record {
  year-from = year-low n (omega arith);
  year-to = top;
  month-from = f.month-low;
  month-to = f.month-high;
  day-from = f.day-low;
  day-to = rw (leap-cycle (n / 1461) (cycle_age r)) f.day-high;
  hour-to = omega arith;
  minute-to = omega arith;
  second-to = omega arith;
  milli-to = omega arith;
})
  where
    n : ℕ
    n = t / 1000 / 60 / 60 / 24 + 671

    r : ℕ
    r = n % 1461

    f : DayOf r
    f = day-of r (omega arith)

    last : n ≤ 48152
    last = omega arith

    top : year_at n ≤ 2099
    top = go (ltb n 46752) refl
      where
        go : (t : Bool) → ltb n 46752 ≡ t → year_at n ≤ 2099
        go true e = omega (arith, ltb-true n 46752 e, f.age-le)
        go false e = omega (arith, ltb-false n 46752 e, f.soon (omega (arith, ltb-false n 46752 e)))

same-date : {a b : Date} → a.year ≡ b.year → a.month ≡ b.month → a.day ≡ b.day
    → a.hour ≡ b.hour → a.minute ≡ b.minute
    → a.second ≡ b.second → a.milli ≡ b.milli → a ≡ b
same-date y m d h i s l = λ j.
    record { year = y j; month = m j; day = d j; hour = h j; minute = i j; second = s j; milli = l j }

-- the parts of a time
record TimeAt (t day h m s l : ℕ) : Type 0 where
  days : t / 1000 / 60 / 60 / 24 ≡ day
  hour : t / 1000 / 60 / 60 % 24 ≡ h
  minute : t / 1000 / 60 % 60 ≡ m
  second : t / 1000 % 60 ≡ s
  milli : t % 1000 ≡ l

time-at : (day h m s l : ℕ) → h ≤ 23 → m ≤ 59 → s ≤ 59 → l ≤ 999
    → TimeAt ((((day * 24 + h) * 60 + m) * 60 + s) * 1000 + l) day h m s l
time-at day h m s l hh hm hs hl =
    let t = (((day * 24 + h) * 60 + m) * 60 + s) * 1000 + l in
    let a : t / 1000 ≡ ((day * 24 + h) * 60 + m) * 60 + s = digits_div _ (omega arith) in
    let b : t / 1000 / 60 ≡ (day * 24 + h) * 60 + m = rw a (digits_div _ (omega arith)) in
    let c : t / 1000 / 60 / 60 ≡ day * 24 + h = rw b (digits_div _ (omega arith)) in
    record {
      days = rw c (digits_div day (omega arith));
      hour = rw c (digits_mod day (omega arith));
      minute = rw b (digits_mod _ (omega arith));
      second = rw a (digits_mod _ (omega arith));
      milli = digits_mod _ (omega arith);
    }

-- the parts of a date's day
record DayAt (y m d n : ℕ) : Type 0 where
  year : year_at n ≡ y
  month : cycle_month (n % 1461) ≡ m
  day : cycle_day (n % 1461) ≡ d

day-at : (y m d : ℕ) → 1970 ≤ y → 1 ≤ m → m ≤ 12 → 1 ≤ d → d ≤ month_length (leap y) m
    → DayAt y m d (day_number y m d + 671)
day-at y m d hy m1 m2 d1 l =
    let a = y - 1968 - begun m in
    let b : begun m ≤ 1 = omega arith in
    let e : y ≡ 1968 + 4 * (a / 4) + (a % 4 + begun m) = omega arith in
    let k : leap y ≡ leap (a % 4 + begun m) = ap leap e ∙ leap-cycle (a / 4) (a % 4 + begun m) in
    let f = date-in (a % 4) m d (omega arith) m1 m2 d1 (rw k at l) in
    let s = day-split y m d hy m1 m2 in
    let g = day-of (day_in (a % 4) m d) f.fits in
    let q : (day_number y m d + 671) / 1461 ≡ a / 4 = rw s (digits_div (a / 4) f.fits) in
    let r : (day_number y m d + 671) % 1461 ≡ day_in (a % 4) m d = rw s (digits_mod (a / 4) f.fits) in
    let age : cycle_age (day_in (a % 4) m d) ≡ a % 4 + begun m = g.age ∙ rw (f.year, f.month) in
    record { year = rw (q, r, age) (sym e); month = rw r f.month; day = rw r f.day }

-- a real date is back from its time
pub date-back : (d : Date) → real_date d ≡ true → date_of (time_of d) ≡ d
unfolding date_of time_of
date-back d h =
    let b = real-bounds d h in
    let f = day-at d.year d.month d.day b.year-from b.month-from b.month-to
    b.day-from b.day-to in
    let t = time-at (day_number d.year d.month d.day) d.hour d.minute d.second d.milli
    b.hour-to b.minute-to b.second-to b.milli-to in
    same-date
    (rw t.days f.year)
    (rw t.days f.month)
    (rw t.days f.day)
    t.hour t.minute t.second t.milli

-- the days up to the end of a month, of a year that has a leap day or not
abbrev ended : Bool → ℕ → Bool
ended long m = leb (month_start long m + month_length long m) (cond long 366 365)

month-end : (long : Bool) (m : ℕ) → 1 ≤ m → m ≤ 12
    → month_start long m + month_length long m ≤ cond long 366 365
unfolding every month_start month_length
month-end true m h k = leb-true _ _ (every-at (ended true) 12 1 m refl h (omega arith))
month-end false m h k = leb-true _ _ (every-at (ended false) 12 1 m refl h (omega arith))

-- 2099-12-31 is day 47,481
day-max : (y m d : ℕ) → y ≤ 2099 → 1 ≤ m → m ≤ 12 → 1 ≤ d → d ≤ month_length (leap y) m
    → day_number y m d ≤ 47481
unfolding day_number
day-max y m d hy m1 m2 d1 l = go (eqb (y % 4) 0) refl (month-end (leap y) m m1 m2) l
  where
    go : (long : Bool) → eqb (y % 4) 0 ≡ long → month_start long m + month_length long m ≤ cond long 366 365
        → d ≤ month_length long m → 365 * (y - 1970) + (y - 1969) / 4 + month_start long m + (d - 1) ≤ 47481
    go true e h k = omega (arith, eqb-true (y % 4) 0 e)
    go false e h k = omega arith

-- a real date's time is at most the last millisecond of 2099
pub time-max : (d : Date) → real_date d ≡ true → time_of d ≤ max_time
unfolding time_of
time-max d h =
    let b = real-bounds d h in
    let n = day-max d.year d.month d.day b.year-to b.month-from b.month-to
    b.day-from b.day-to in
    omega (arith, b.hour-to, b.minute-to, b.second-to, b.milli-to)

-- ---- the 24 bytes

-- all bytes of a date's text are digits or one of '-', 'T', ':', '.', 'Z'
pub text-class : (p : ℕ → Bool) (d : Date) → ((x : ℕ) → digit x ≡ true → p x ≡ true)
    → p 45 ≡ true → p 84 ≡ true → p 58 ≡ true → p 46 ≡ true → p 90 ≡ true
    → all p (date_text d) ≡ true
unfolding date_text all
text-class p d f dash t colon point z =
    let g : (k n : ℕ) → all p (fixed k n) ≡ true = λ k n. all-imp {p = digit} f (fixed k n) (fixed-digits k n) in
    simp (all_append, g, dash, t, colon, point, z)

pub text-length : (d : Date) → length (date_text d) ≡ 24
unfolding date_text fixed
text-length d = refl

pub text-formed : (d : Date) → formed stamp_form (date_text d) ≡ true
unfolding date_text fixed formed
text-formed d = simp digit-is

-- a real date is back from its text
pub text-back : (d : Date) → real_date d ≡ true → date_in (date_text d) ≡ d
unfolding date_in date_text fixed
text-back d h =
    let b = real-bounds d h in
    same-date
    (fixed-value 4 d.year (omega (arith, b.year-to)))
    (fixed-value 2 d.month (omega (arith, b.month-to)))
    (fixed-value 2 d.day (omega (arith, b.day-to, month-max (leap d.year) d.month)))
    (fixed-value 2 d.hour (omega (arith, b.hour-to)))
    (fixed-value 2 d.minute (omega (arith, b.minute-to)))
    (fixed-value 2 d.second (omega (arith, b.second-to)))
    (fixed-value 3 d.milli (omega (arith, b.milli-to)))

-- ---- both ways

-- Times up to the last millisecond of 2099 and real dates are back from each other, and a real date from its 24 bytes,
-- which have the form of a stamp.
pub stamp-back :
    ((t : ℕ) → time_of (date_of t) ≡ t)
    × ((t : ℕ) → t ≤ max_time → real_date (date_of t) ≡ true)
    × ((d : Date) → real_date d ≡ true → date_of (time_of d) ≡ d)
    × ((d : Date) → real_date d ≡ true → time_of d ≤ max_time)
    × ((d : Date) → formed stamp_form (date_text d) ≡ true)
    × ((d : Date) → real_date d ≡ true → date_in (date_text d) ≡ d)
stamp-back = (time-back, date-real, date-back, time-max, text-formed, text-back)
