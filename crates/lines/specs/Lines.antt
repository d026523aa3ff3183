-- Adapter lines, `stamp|item|value`, read and written: document 02, Req 06.
use Rattle.std.specs.Prelude.{ℕ, zero, suc, ◌+◌, ◌-◌, ◌*◌, ◌/◌, ◌%◌, ◌^◌, Bool, true, false, cond, ◌&&◌, not, List, [], ◌∷◌, ◌++◌, ltb, eqb, ℤ, pos, negsuc, length, Option, Some, None, Result, Ok, Err, is_some, unwrap_or}
use Rattle.spec.specs.Bytes.{bytes, same, split, value_from, decimal, is_number}
use Rattle.spec.specs.Value.{no_value}
use Rattle.lines.specs.Digits.{fixed}
use Rattle.lines.specs.Stamps.{formed, stamp_form, date_in, real_date, time_of, stamp_text}
use Rattle.spec.specs.declared.Level.{Level}
use Rattle.spec.specs.declared.Level.TheVariants.{Normal, Warning, Fault}
use Rattle.spec.specs.declared.Value.{Value}
use Rattle.spec.specs.declared.Value.TheVariants.{Unavailable, Sample, Event, Condition}
use Rattle.lines.specs.declared.Form.{Form}
use Rattle.lines.specs.declared.Form.TheVariants.{Missing, Decimal, State}
use Rattle.lines.specs.declared.Line.{Line}
use Rattle.lines.specs.declared.LineError.{LineError}
use Rattle.lines.specs.declared.LineError.TheVariants.{Malformed, BadStamp}

-- ---- the forms of a value

-- 1 to 10 digits
abbrev pub numeral : List ℕ → Bool
numeral s = is_number 10 9999999999 s

-- 1 to 3 digits behind a point
abbrev pub fraction : List ℕ → Bool
fraction s = is_number 3 999 s

abbrev pub thousandths : List ℕ → ℕ
thousandths s = value_from 0 s * 10 ^ (3 - length s)

abbrev pub whole_form : Bool → List ℕ → Option Form
whole_form minus w = cond (numeral w) (Some (Decimal minus (value_from 0 w) None)) None

abbrev pub point_form : Bool → List ℕ → List ℕ → Option Form
point_form minus w p = cond (numeral w && fraction p) (Some (Decimal minus (value_from 0 w) (Some (thousandths p)))) None

-- the whole part, or that and what stands behind the point
unfoldable pub by_point : Bool → List (List ℕ) → Option Form
by_point minus [] = None
by_point minus (w ∷ []) = whole_form minus w
by_point minus (w ∷ p ∷ []) = point_form minus w p
by_point minus (w ∷ p ∷ q ∷ ps) = None

unfoldable pub decimal_form : List ℕ → Option Form
decimal_form [] = None
decimal_form (x ∷ s) = cond (eqb x 45) (by_point true (split 46 s)) (by_point false (split 46 (x ∷ s)))

abbrev pub level_word : Level → List ℕ
level_word Normal = bytes "NORMAL"
level_word Warning = bytes "WARNING"
level_word Fault = bytes "FAULT"

unfoldable pub state_form : List ℕ → ℕ → Option Form
state_form w code =
    cond (same w (level_word Normal)) (Some (State Normal code))
    (cond (same w (level_word Warning)) (Some (State Warning code))
    (cond (same w (level_word Fault)) (Some (State Fault code)) None))

abbrev pub coded_form : List ℕ → List ℕ → Option Form
coded_form w c = cond (numeral c) (state_form w (value_from 0 c)) None

abbrev pub plain_form : List ℕ → Option Form
plain_form s = cond (same s (bytes "UNAVAILABLE")) (Some Missing) (decimal_form s)

-- a value without ':', or a level's word and its code
unfoldable pub by_colon : List (List ℕ) → Option Form
by_colon [] = None
by_colon (s ∷ []) = plain_form s
by_colon (w ∷ c ∷ []) = coded_form w c
by_colon (w ∷ c ∷ d ∷ ps) = None

unfoldable pub form_of : List ℕ → Option Form
form_of s = by_colon (split 58 s)

-- ---- a line

-- no bytes, or 24 of the form
abbrev pub stamp_formed : List ℕ → Bool
stamp_formed [] = true
stamp_formed (x ∷ s) = formed stamp_form (x ∷ s)

abbrev pub stamp_real : List ℕ → Bool
stamp_real [] = true
stamp_real (x ∷ s) = real_date (date_in (x ∷ s))

-- no bytes are time 0
abbrev pub time_in : List ℕ → ℕ
time_in [] = 0
time_in (x ∷ s) = time_of (date_in (x ∷ s))

-- what a line that is read says
abbrev pub reads : ℕ → ℕ → Form → Result Line LineError
reads time item form = Ok (record { time = time; item = item; form = form })

abbrev pub dated_line : List ℕ → ℕ → Form → Result Line LineError
dated_line stamp n f = cond (stamp_real stamp) (reads (time_in stamp) n f) (Err BadStamp)

-- a wrong form of any part comes before a date that there isn't
unfoldable pub line_in : List ℕ → List ℕ → Option Form → Result Line LineError
line_in stamp item None = Err Malformed
line_in stamp item (Some f) =
    cond (stamp_formed stamp && numeral item) (dated_line stamp (value_from 0 item) f) (Err Malformed)

unfoldable pub by_bar : List (List ℕ) → Result Line LineError
by_bar [] = Err Malformed
by_bar (a ∷ []) = Err Malformed
by_bar (a ∷ b ∷ []) = Err Malformed
by_bar (a ∷ b ∷ c ∷ []) = line_in a b (form_of c)
by_bar (a ∷ b ∷ c ∷ d ∷ ps) = Err Malformed

unfoldable pub read_line : List ℕ → Result Line LineError
read_line s = by_bar (split 124 s)

-- ---- the value, by the item's category

-- n thousandths, where an i32 holds them; no item takes no_value
abbrev pub sample_for : Bool → ℕ → Value
sample_for false n = cond (ltb n (2 ^ 31)) (Sample (pos n)) no_value
sample_for true zero = Sample (pos 0)
sample_for true (suc n) = cond (ltb n (2 ^ 31)) (Sample (negsuc n)) no_value

abbrev pub event_for : Bool → Bool → ℕ → Value
event_for minus point n = cond (not minus && (not point && ltb n (2 ^ 32))) (Event n) no_value

abbrev pub state_for : Level → ℕ → Value
state_for level code = cond (ltb code (2 ^ 24)) (Condition level code) no_value

-- category 0 reads a decimal as a sample, any other as an event; which of these it takes is `takes`
abbrev pub decimal_for : ℕ → Bool → ℕ → Option ℕ → Value
decimal_for category minus whole part =
    cond (eqb category 0) (sample_for minus (whole * 1000 + unwrap_or part 0)) (event_for minus (is_some part) whole)

unfoldable pub value_for : ℕ → Form → Value
value_for category Missing = Unavailable
value_for category (Decimal minus whole part) = decimal_for category minus whole part
value_for category (State level code) = state_for level code

-- of a text's form, where it has one
abbrev pub value_read : ℕ → Option Form → Value
value_read category None = no_value
value_read category (Some f) = value_for category f

-- ---- the writer's bytes

-- thousandths, 1 to 999, without zeros at the end
unfoldable pub part_text : ℕ → List ℕ
part_text p =
    cond (eqb (p % 100) 0) (fixed 1 (p / 100))
    (cond (eqb (p % 10) 0) (fixed 2 (p / 10)) (fixed 3 p))

unfoldable pub point_text : ℕ → List ℕ
point_text p = cond (eqb p 0) [] (46 ∷ part_text p)

abbrev pub unsigned_text : ℕ → List ℕ
unsigned_text n = decimal (n / 1000) ++ point_text (n % 1000)

abbrev pub sample_text : ℤ → List ℕ
sample_text (pos n) = unsigned_text n
sample_text (negsuc n) = 45 ∷ unsigned_text (suc n)

unfoldable pub value_text : Value → List ℕ
value_text Unavailable = bytes "UNAVAILABLE"
value_text (Sample x) = sample_text x
value_text (Event c) = decimal c
value_text (Condition l c) = level_word l ++ 58 ∷ decimal c

-- no bytes for time 0
unfoldable pub stamp_part : ℕ → List ℕ
stamp_part t = cond (eqb t 0) [] (stamp_text t)

unfoldable pub line_of : ℕ → ℕ → Value → List ℕ
line_of item time v = stamp_part time ++ 124 ∷ (decimal item ++ 124 ∷ value_text v)
