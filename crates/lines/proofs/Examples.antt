-- Worked lines, by computation: how each reads, which value it gives an item of each category, which dates there are,
-- and the lines written. Bounds stand with the first number or date on their other side.
use Prim.Native.Nat.{ℕ}
use mathlib.Core.Path.{◌≡◌, refl}
use mathlib.Core.Bool.{Bool, true, false}
use mathlib.Core.List.{List, [], ◌∷◌, map}
use lib.IntN.{pos, negsuc}
use lib.ListN.{length, replicate}
use Rattle.std.specs.Prelude.{Some, None, Result, Err}
use Rattle.spec.specs.Bytes.{bytes, all, same, join_first, split, digit, digits, value_from, is_number}
use Rattle.spec.specs.Value.{no_value, takes}
use Rattle.spec.specs.declared.Level.TheVariants.{Normal, Warning, Fault}
use Rattle.spec.specs.declared.Value.{Value}
use Rattle.spec.specs.declared.Value.TheVariants.{Unavailable, Sample, Event, Condition}
use Rattle.lines.specs.Digits.{fixed}
use Rattle.lines.specs.Stamps.{month_length, month_start, real_date, day_number, time_of, cycle_month, cycle_day}
use Rattle.lines.specs.Stamps.{cycle_age, date_of, formed, date_in, date_text, max_time}
use Rattle.lines.specs.Lines.{by_point, decimal_form, state_form, by_colon, form_of, line_in, by_bar, read_line, reads}
use Rattle.lines.specs.Lines.{value_for, value_read}
use Rattle.lines.specs.Lines.{part_text, point_text, value_text, stamp_part, line_of}
use Rattle.lines.specs.declared.Form.TheVariants.{Missing, Decimal, State}
use Rattle.lines.specs.declared.Line.{Line}
use Rattle.lines.specs.declared.LineError.{LineError}
use Rattle.lines.specs.declared.LineError.TheVariants.{Malformed, BadStamp}

-- ---- what they compute with

unfoldable pub opened_stamps : Unit {0}
unfolding month_length month_start real_date day_number time_of cycle_month cycle_day cycle_age date_of formed date_in
    date_text
opened_stamps = tt

unfoldable pub opened_lines : Unit {0}
unfolding by_point decimal_form state_form by_colon form_of line_in by_bar read_line value_for part_text point_text
    value_text stamp_part line_of
opened_lines = tt

unfoldable pub opened : Unit {0}
unfolding split join_first same all digit digits fixed value_from is_number opened_stamps opened_lines
opened = tt

-- ---- lines read

-- each of the lines reads so
abbrev Read : Result Line LineError → List (List ℕ) → Type 0
Read r ls = map read_line ls ≡ replicate (length ls) r

-- each kind of value, with and without a stamp; item and numbers of ten digits, an item number that no u32 holds
pub lines-read :
    Read (reads 0 1 Missing) (bytes "|1|UNAVAILABLE" ∷ bytes "|0000000001|UNAVAILABLE" ∷ [])
    × Read (reads 1795249800250 7 (Decimal false 21 (Some 500))) (bytes "2026-11-21T08:30:00.250Z|7|21.5" ∷ [])
    × Read (reads 0 1 (Decimal false 5 None)) (bytes "|1|5" ∷ bytes "|1|0000000005" ∷ [])
    × Read (reads 0 1 (Decimal false 5 (Some 50))) (bytes "|1|5.05" ∷ bytes "|1|5.050" ∷ [])
    × Read (reads 0 1 (Decimal true 0 (Some 500))) (bytes "|1|-0.5" ∷ bytes "|1|-0.50" ∷ bytes "|01|-00.500"
    ∷ [])
    × Read (reads 0 1 (Decimal true 0 None)) (bytes "|1|-0" ∷ [])
    × Read (reads 0 1 (Decimal false 1 (Some 500))) (bytes "|1|0000000001.5" ∷ [])
    × Read (reads 0 1 (Decimal false 1234567890 (Some 500))) (bytes "|1|1234567890.5" ∷ [])
    × Read (reads 0 1 (Decimal false 9999999999 (Some 999))) (bytes "|1|9999999999.999" ∷ [])
    × Read (reads 0 4294967296 (Decimal false 0 None)) (bytes "|4294967296|0" ∷ [])
    × Read (reads 0 9999999999 (State Normal 7)) (bytes "|9999999999|NORMAL:7" ∷ [])
    × Read (reads 0 2 (State Warning 0)) (bytes "|2|WARNING:0000000000" ∷ [])
    × Read (reads 0 2 (State Fault 9999999999)) (bytes "|2|FAULT:9999999999" ∷ [])
unfolding opened
lines-read = (refl, refl, refl, refl, refl, refl, refl, refl, refl, refl, refl, refl, refl)

-- wrong forms of a value: point, sign, digits, words, codes, bytes at the end
pub values-malformed :
    Read (Err Malformed)
    (bytes "|1|" ∷ bytes "|1|-" ∷ bytes "|1|+5" ∷ bytes "|1|--5" ∷ bytes "|1|5." ∷ bytes "|1|.5"
    ∷ bytes "|1|-.5"
    ∷ bytes "|1|1.2.3" ∷ bytes "|1|5.0000" ∷ bytes "|1|5.-1" ∷ bytes "|1|00000000005"
    ∷ bytes "|1|12345678901.5"
    ∷ bytes "|1|1e3" ∷ bytes "|1|5 " ∷ bytes "|1| 5" ∷ bytes "|1|5\r" ∷ bytes "|1|5\n"
    ∷ bytes "|1|UNAVAILABLE\r"
    ∷ bytes "|1|unavailable" ∷ bytes "|1|UNAVAILABLE:1" ∷ bytes "|1|NORMAL" ∷ bytes "|1|NORMAL:"
    ∷ bytes "|1|NORMAL:-1"
    ∷ bytes "|1|NORMAL:1.0" ∷ bytes "|1|NORMAL:1:2" ∷ bytes "|1|FAULT:00000000001" ∷ bytes "|1|normal:1"
    ∷ bytes "|1|ERROR:1" ∷ bytes "|1|:1" ∷ [])
unfolding opened
values-malformed = refl

-- wrong forms of the item, and of the line
pub items-malformed :
    Read (Err Malformed)
    (bytes "||5" ∷ bytes "|-1|5" ∷ bytes "|1.0|5" ∷ bytes "| 1|5" ∷ bytes "|00000000001|5" ∷ bytes ""
    ∷ bytes "|1"
    ∷ bytes "1" ∷ bytes "||" ∷ bytes "|1|5|" ∷ bytes "|1|5|6" ∷ bytes "||1|5" ∷ [])
unfolding opened
items-malformed = refl

-- ---- stamps

-- first and last millisecond, leap days, the end of a day; no stamp is time 0
pub stamps-read :
    Read (reads 0 1 Missing) (bytes "1970-01-01T00:00:00.000Z|1|UNAVAILABLE" ∷ bytes "|1|UNAVAILABLE" ∷ [])
    × Read (reads 1 1 Missing) (bytes "1970-01-01T00:00:00.001Z|1|UNAVAILABLE" ∷ [])
    × Read (reads 4102444799999 1 Missing) (bytes "2099-12-31T23:59:59.999Z|1|UNAVAILABLE" ∷ [])
    × Read (reads 68169600000 1 Missing) (bytes "1972-02-29T00:00:00.000Z|1|UNAVAILABLE" ∷ [])
    × Read (reads 951782400000 1 Missing) (bytes "2000-02-29T00:00:00.000Z|1|UNAVAILABLE" ∷ [])
    × Read (reads 1709251199999 1 Missing) (bytes "2024-02-29T23:59:59.999Z|1|UNAVAILABLE" ∷ [])
    × Read (reads 3981312000000 1 Missing) (bytes "2096-02-29T00:00:00.000Z|1|UNAVAILABLE" ∷ [])
unfolding opened
stamps-read = (refl, refl, refl, refl, refl, refl, refl)

-- of the right form, but no date or time of day of 1970 to 2099
pub stamps-impossible :
    Read (Err BadStamp)
    (bytes "1969-12-31T23:59:59.999Z|1|0" ∷ bytes "2100-01-01T00:00:00.000Z|1|0"
    ∷ bytes "0000-01-01T00:00:00.000Z|1|0" ∷ bytes "9999-12-31T23:59:59.999Z|1|0"
    ∷ bytes "2099-02-29T00:00:00.000Z|1|0" ∷ bytes "2023-02-29T00:00:00.000Z|1|0"
    ∷ bytes "2024-02-30T00:00:00.000Z|1|0" ∷ bytes "2024-00-01T00:00:00.000Z|1|0"
    ∷ bytes "2024-13-01T00:00:00.000Z|1|0" ∷ bytes "2024-01-00T00:00:00.000Z|1|0"
    ∷ bytes "2024-01-01T24:00:00.000Z|1|0" ∷ bytes "2024-01-01T00:60:00.000Z|1|0"
    ∷ bytes "2024-12-31T23:59:60.000Z|1|0" ∷ bytes "2024-99-99T99:99:99.999Z|9999999999|0" ∷ [])
unfolding opened
stamps-impossible = refl

-- not of the form, which goes before an impossible date
pub stamps-malformed :
    Read (Err Malformed)
    (bytes "                        |1|0" ∷ bytes " |1|0" ∷ bytes "2024-01-01T00:00:00Z|1|0"
    ∷ bytes "2024-01-01T00:00:00.00Z|1|0" ∷ bytes "2024-01-01T00:00:00.0000Z|1|0"
    ∷ bytes "2024-01-01T00:00:00.000|1|0" ∷ bytes "2024-01-01T00:00:00.000+|1|0"
    ∷ bytes "2024-01-01T00:00:00.000Z |1|0" ∷ bytes " 2024-01-01T00:00:00.000Z|1|0"
    ∷ bytes "2024-01-01t00:00:00.000Z|1|0" ∷ bytes "2024-01-01 00:00:00.000Z|1|0"
    ∷ bytes "2024-1-01T00:00:00.0000Z|1|0" ∷ bytes "2024-01-01T00:00:00,000Z|1|0"
    ∷ bytes "dddd-dd-ddTdd:dd:dd.dddZ|1|0" ∷ bytes "2024-99-99T99:99:99.999Z|1|+5"
    ∷ bytes "2024-99-99T99:99:99.999Z||5" ∷ bytes "2024-99-99T99:99:99.999Z|1|5|" ∷ [])
unfolding opened
stamps-malformed = refl

-- the day of each month, of a year without a leap day and of one with it: whether there is such a date
abbrev dates_of : ℕ → ℕ → List Bool
dates_of year day =
    map (λ m. real_date (record { year = year; month = m; day = day; hour = 0; minute = 0; second = 0; milli = 0 }))
    (1 ∷ 2 ∷ 3 ∷ 4 ∷ 5 ∷ 6 ∷ 7 ∷ 8 ∷ 9 ∷ 10 ∷ 11 ∷ 12 ∷ [])

abbrev long_months : List Bool
long_months =
    true ∷ false ∷ true ∷ false ∷ true ∷ false ∷ true ∷ true ∷ false ∷ true ∷ false ∷ true ∷ []

abbrev all_but_february : List Bool
all_but_february = true ∷ false ∷ replicate 10 true

pub month-lengths :
    (dates_of 2023 31 ≡ long_months)
    × (dates_of 2024 31 ≡ long_months)
    × (dates_of 2023 30 ≡ all_but_february)
    × (dates_of 2024 30 ≡ all_but_february)
    × (dates_of 2023 29 ≡ all_but_february)
    × (dates_of 2024 29 ≡ replicate 12 true)
    × (dates_of 2023 28 ≡ replicate 12 true)
    × (dates_of 2024 32 ≡ replicate 12 false)
    × (dates_of 2024 0 ≡ replicate 12 false)
unfolding opened
month-lengths = (refl, refl, refl, refl, refl, refl, refl, refl, refl)

-- ---- values by the item's category

-- the text's value for an item of the category
abbrev Value-of : ℕ → Value → List (List ℕ) → Type 0
Value-of category v ss = map (λ s. value_read category (form_of s)) ss ≡ replicate (length ss) v

-- samples to the bounds of 32 bits, codes, native codes
pub values-given :
    Value-of 0 (Sample (negsuc 499)) (bytes "-0.5" ∷ bytes "-0.500" ∷ [])
    × Value-of 0 (Sample (pos 5050)) (bytes "5.05" ∷ [])
    × Value-of 0 (Sample (pos 1500)) (bytes "0000000001.5" ∷ [])
    × Value-of 0 (Sample (pos 0)) (bytes "0" ∷ bytes "-0" ∷ bytes "-0.000" ∷ [])
    × Value-of 0 (Sample (pos 2147483647)) (bytes "2147483.647" ∷ [])
    × Value-of 0 (Sample (negsuc 2147483646)) (bytes "-2147483.647" ∷ [])
    × Value-of 0 (Sample (negsuc 2147483647)) (bytes "-2147483.648" ∷ [])
    × Value-of 1 (Event 4294967295) (bytes "4294967295" ∷ [])
    × Value-of 4 (Event 4294967295) (bytes "4294967295" ∷ [])
    × Value-of 4 (Event 0) (bytes "0" ∷ bytes "0000000000" ∷ [])
    × Value-of 2 (Condition Fault 16777215) (bytes "FAULT:16777215" ∷ [])
    × Value-of 2 (Condition Normal 7) (bytes "NORMAL:7" ∷ [])
    × Value-of 2 Unavailable (bytes "UNAVAILABLE" ∷ [])
unfolding opened
values-given = (refl, refl, refl, refl, refl, refl, refl, refl, refl, refl, refl, refl, refl)

-- too large for the kind, or an event with a sign or a point: a value that no item takes
pub values-too-large :
    Value-of 0 no_value
    (bytes "2147483.648" ∷ bytes "-2147483.649" ∷ bytes "4294967.296" ∷ bytes "1234567890.5" ∷ [])
    × Value-of 1 no_value (bytes "4294967296" ∷ bytes "9999999999" ∷ bytes "-1" ∷ bytes "-0" ∷ bytes "5.0"
    ∷ [])
    × Value-of 2 no_value (bytes "FAULT:16777216" ∷ bytes "NORMAL:16777216" ∷ bytes "WARNING:9999999999" ∷ [])
unfolding opened
values-too-large = (refl, refl, refl)

-- whether an item of the category takes each of the texts
abbrev Taken : Bool → ℕ → List (List ℕ) → Type 0
Taken b category ss = map (λ s. takes category (value_read category (form_of s))) ss ≡ replicate (length ss) b

-- of another category's form, or too large for the kind
pub values-refused :
    Taken false 0
    (bytes "2147483.648" ∷ bytes "-2147483.649" ∷ bytes "4294967.296" ∷ bytes "1234567890.5"
    ∷ bytes "9999999999.999"
    ∷ bytes "NORMAL:0" ∷ [])
    × Taken false 1 (bytes "4294967296" ∷ bytes "-1" ∷ bytes "-0" ∷ bytes "5.0" ∷ bytes "FAULT:1" ∷ [])
    × Taken false 4 (bytes "4294967296" ∷ bytes "-1" ∷ bytes "-0" ∷ bytes "5.0" ∷ bytes "FAULT:1" ∷ [])
    × Taken false 2 (bytes "FAULT:16777216" ∷ bytes "NORMAL:16777216" ∷ bytes "WARNING:9999999999" ∷ bytes "5"
    ∷ [])
    × Taken false 3 (bytes "UNAVAILABLE" ∷ bytes "5" ∷ bytes "5.5" ∷ bytes "NORMAL:0" ∷ [])
    × Taken true 0 (bytes "UNAVAILABLE" ∷ bytes "-0" ∷ bytes "5.0" ∷ [])
    × Taken true 1 (bytes "UNAVAILABLE" ∷ bytes "4294967295" ∷ [])
    × Taken true 2 (bytes "UNAVAILABLE" ∷ bytes "NORMAL:16777215" ∷ [])
    × Taken true 4 (bytes "UNAVAILABLE" ∷ bytes "4294967295" ∷ [])
unfolding opened
values-refused = (refl, refl, refl, refl, refl, refl, refl, refl, refl)

-- ---- lines written

-- time 0, 1 and the last; each kind; no needless zero or point
pub lines-written :
    (line_of 1 0 (Sample (negsuc 0)) ≡ bytes "|1|-0.001")
    × (line_of 1 1010 (Sample (pos 5000)) ≡ bytes "1970-01-01T00:00:01.010Z|1|5")
    × (line_of 511 max_time (Sample (pos 5500)) ≡ bytes "2099-12-31T23:59:59.999Z|511|5.5")
    × (line_of 0 951782400000 (Sample (pos 0)) ≡ bytes "2000-02-29T00:00:00.000Z|0|0")
    × (line_of 0 0 (Sample (pos 5050)) ≡ bytes "|0|5.05")
    × (line_of 0 0 (Sample (pos 10)) ≡ bytes "|0|0.01")
    × (line_of 0 0 (Sample (pos 1000000)) ≡ bytes "|0|1000")
    × (line_of 0 0 (Sample (pos 2147483647)) ≡ bytes "|0|2147483.647")
    × (line_of 0 0 (Sample (negsuc 2147483647)) ≡ bytes "|0|-2147483.648")
    × (line_of 10 1 (Event 4294967295) ≡ bytes "1970-01-01T00:00:00.001Z|10|4294967295")
    × (line_of 2 0 (Event 0) ≡ bytes "|2|0")
    × (line_of 2 0 (Condition Normal 0) ≡ bytes "|2|NORMAL:0")
    × (line_of 2 0 (Condition Warning 16777215) ≡ bytes "|2|WARNING:16777215")
    × (line_of 2 0 (Condition Fault 7) ≡ bytes "|2|FAULT:7")
    × (line_of 2 0 Unavailable ≡ bytes "|2|UNAVAILABLE")
unfolding opened
lines-written = (refl, refl, refl, refl, refl, refl, refl, refl, refl, refl, refl, refl, refl, refl, refl)
