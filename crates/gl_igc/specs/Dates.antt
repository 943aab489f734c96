-- The day of a recording, from its date lines.
use Rattle.std.specs.Prelude.{ℕ, ◌+◌, nat_le, ◌==◌, ◌&&◌, nat_eq, codes, length, if◌then◌else◌, List, [], ◌∷◌, Option, None, Some, take, drop, Bool, ℤ, pos}
use Rattle.std.specs.List.{starts_with}
use Rattle.std.specs.Str.{byte}
use Rattle.jiff_core.specs.Calendar.{days_in_month, days_from_civil}
use Rattle.gl_text.specs.Digits.{◌>>=◌, columns, number_of}

-- the calendar has this day
unfoldable pub is_in_calendar : ℕ → ℕ → ℕ → Bool
is_in_calendar year month day =
    nat_le 1 month && nat_le month 12 && nat_le 1 day && nat_le day (days_in_month (pos year) month)

-- the number of a day of the calendar, from 1970-01-01
unfoldable pub day_number : ℕ → ℕ → ℕ → Option ℤ
day_number year month day =
    if is_in_calendar year month day then Some (days_from_civil (pos year) month day) else None

-- the day number, from 1970-01-01, of the day that DDMMYY says, in the years 2000 to 2099
unfoldable pub day_of : List ℕ → Option ℤ
day_of digits = do
  day ← number_of (columns 1 2 digits)
  month ← number_of (columns 3 4 digits)
  year ← number_of (columns 5 6 digits)
  day_number (2000 + year) month day

-- a text without these letters at its front, where they stand there
abbrev pub after_letters : List ℕ → List ℕ → List ℕ
after_letters letters text =
    if starts_with nat_eq text letters then drop (length letters) text else text

-- a text without the spaces at its front
abbrev pub after_spaces : List ℕ → List ℕ
after_spaces [] = []
after_spaces (c ∷ cs) = if c == byte " " then after_spaces cs else c ∷ cs

-- the day that a text begins with
unfoldable pub leading_day : List ℕ → Option ℤ
leading_day text = if nat_le 6 (length text) then day_of (take 6 text) else None

-- the day of a date line: HFDTE, perhaps DATE, perhaps a colon, any spaces, then DDMMYY; none of
-- any other line
unfoldable pub date_of_line : List ℕ → Option ℤ
date_of_line line =
    let rest = after_letters (codes ":") (after_letters (codes "DATE") (drop 5 line)) in
    if starts_with nat_eq line (codes "HFDTE") then leading_day (after_spaces rest) else None
