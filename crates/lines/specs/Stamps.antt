-- Time stamps: milliseconds since 1970-01-01T00:00:00.000Z as date and time of day, 1970 to 2099, and their 24 bytes.
-- Document 02, Req 06.
use Rattle.std.specs.Prelude.{ℕ, zero, suc, ◌+◌, ◌-◌, ◌*◌, ◌/◌, ◌%◌, Bool, true, false, cond, ◌&&◌, List, [], ◌∷◌, ◌++◌, leb, eqb, take, drop}
use Rattle.spec.specs.Bytes.{bytes, digit, value_from}
use Rattle.lines.specs.Digits.{fixed}
use Rattle.lines.specs.declared.Date.{Date}

-- ---- the calendar

-- enough for 1970 to 2099: 2000 is a leap year
abbrev pub leap : ℕ → Bool
leap year = eqb (year % 4) 0

-- 31 and 30 days by turns, twice 31 at July and August; February by itself
unfoldable pub month_length : Bool → ℕ → ℕ
month_length long m = cond (eqb m 2) (cond long 29 28) (30 + (m + m / 8) % 2)

-- the days of the year before month m
unfoldable pub month_start : Bool → ℕ → ℕ
month_start long zero = 0
month_start long (suc zero) = 0
month_start long (suc (suc m)) = month_start long (suc m) + month_length long (suc m)

-- a date that there is, 1970 to 2099
unfoldable pub real_date : Date → Bool
real_date d =
    (leb 1970 d.year && leb d.year 2099)
    && ((leb 1 d.month && leb d.month 12)
    && ((leb 1 d.day && leb d.day (month_length (leap d.year) d.month))
    && (leb d.hour 23 && (leb d.minute 59 && (leb d.second 59 && leb d.milli 999)))))

-- ---- time and date

-- the days from 1970-01-01 on: whole years, the leap days among them, whole months, days
unfoldable pub day_number : ℕ → ℕ → ℕ → ℕ
day_number y m d = 365 * (y - 1970) + (y - 1969) / 4 + month_start (leap y) m + (d - 1)

-- in milliseconds
unfoldable pub time_of : Date → ℕ
time_of d =
    let minutes = (day_number d.year d.month d.day * 24 + d.hour) * 60 + d.minute in
    (minutes * 60 + d.second) * 1000 + d.milli

-- the last millisecond of 2099
abbrev pub max_time : ℕ
max_time = 4102444799999

-- Years that begin in March, counted from 1968-03-01, have the leap day at their end: four of them are 1,461 days,
-- and each five of their months 153. Of day r of four such years, from 0 on:

-- the year, 0 to 3
abbrev pub cycle_year : ℕ → ℕ
cycle_year r = (4 * r + 3) / 1461

-- the day of that year, 0 to 365
abbrev pub year_day : ℕ → ℕ
year_day r = r - 365 * cycle_year r

-- the month from March on, 0 to 11
abbrev pub march_month : ℕ → ℕ
march_month r = (5 * year_day r + 2) / 153

-- the month, 1 to 12
unfoldable pub cycle_month : ℕ → ℕ
cycle_month r = (march_month r + 2) % 12 + 1

-- the day of the month, from 1 on
unfoldable pub cycle_day : ℕ → ℕ
cycle_day r = year_day r - (153 * march_month r + 2) / 5 + 1

-- the years that have begun: January and February are the next one's
unfoldable pub cycle_age : ℕ → ℕ
cycle_age r = cycle_year r + march_month r / 10

-- 1970-01-01 is 671 days after 1968-03-01
unfoldable pub date_of : ℕ → Date
date_of t =
    let n = t / 1000 / 60 / 60 / 24 + 671 in
    record {
      year = 1968 + 4 * (n / 1461) + cycle_age (n % 1461);
      month = cycle_month (n % 1461);
      day = cycle_day (n % 1461);
      hour = t / 1000 / 60 / 60 % 24;
      minute = t / 1000 / 60 % 60;
      second = t / 1000 % 60;
      milli = t % 1000;
    }

-- ---- the 24 bytes

-- s has the form's bytes, with any digit for each 'd'
unfoldable pub formed : List ℕ → List ℕ → Bool
formed [] [] = true
formed [] (x ∷ s) = false
formed (f ∷ fs) [] = false
formed (f ∷ fs) (x ∷ s) = cond (eqb f 100) (digit x) (eqb x f) && formed fs s

abbrev pub stamp_form : List ℕ
stamp_form = bytes "dddd-dd-ddTdd:dd:dd.dddZ"

-- the number that n bytes from `at` on spell
abbrev pub field : List ℕ → ℕ → ℕ → ℕ
field s at n = value_from 0 (take n (drop at s))

unfoldable pub date_in : List ℕ → Date
date_in s =
    record {
      year = field s 0 4;
      month = field s 5 2;
      day = field s 8 2;
      hour = field s 11 2;
      minute = field s 14 2;
      second = field s 17 2;
      milli = field s 20 3;
    }

-- YYYY-MM-DD
abbrev pub day_text : ℕ → ℕ → ℕ → List ℕ
day_text y m d = fixed 4 y ++ 45 ∷ (fixed 2 m ++ 45 ∷ fixed 2 d)

-- hh:mm:ss.fff
abbrev pub clock_text : ℕ → ℕ → ℕ → ℕ → List ℕ
clock_text h m s l = fixed 2 h ++ 58 ∷ (fixed 2 m ++ 58 ∷ (fixed 2 s ++ 46 ∷ fixed 3 l))

-- these with 'T' between and 'Z' behind
unfoldable pub date_text : Date → List ℕ
date_text d =
    day_text d.year d.month d.day
    ++ 84 ∷ (clock_text d.hour d.minute d.second d.milli ++ 90 ∷ [])

-- a time's bytes; in a line time 0 has none
abbrev pub stamp_text : ℕ → List ℕ
stamp_text t = date_text (date_of t)
