-- Numbers, lengths and times as the SeeYou form writes them.
use Rattle.std.specs.Prelude.{ℕ, ◌+◌, ◌-◌, ◌*◌, ◌/◌, ◌^◌, nat_le, nat_lt, nat_eq, ◌==◌, ◌&&◌, ◌||◌, if◌then◌else◌, codes, slice_index, List, [], length, take, drop, Option, None, Some, position}
use Rattle.std.specs.List.{ends_with}
use Rattle.std.specs.Str.{byte}
use Rattle.gl_text.specs.Digits.{◌>>=◌, columns, number_of}

-- the thousandths of a number, by its digits before and behind the point: one to six, and at most
-- three
unfoldable pub thousandths_in : List ℕ → List ℕ → Option ℕ
thousandths_in whole decimals =
    if (length whole == 0) || nat_lt 6 (length whole) || nat_lt 3 (length decimals) then None
    else (do
      ones ← number_of whole
      rest ← number_of decimals
      Some (ones * 1_000 + rest * 10 ^ (3 - length decimals)))

-- cut at the point, if there is one
abbrev pub thousandths_cut : List ℕ → Option ℕ → Option ℕ
thousandths_cut text None = thousandths_in text []
thousandths_cut text (Some point) = thousandths_in (take point text) (drop (point + 1) text)

-- the thousandths of a number with or without a point
unfoldable pub thousandths_of : List ℕ → Option ℕ
thousandths_of text = thousandths_cut text (position (λ c. c == byte ".") text)

-- the whole metres nearest to a number of a unit, which is told in millimetres
unfoldable pub metres_in : ℕ → List ℕ → Option ℕ
metres_in unit number =
    thousandths_of number >>= λ n. Some ((n * unit / 1_000 + 500) / 1_000)

-- the text without so many bytes at its end
abbrev pub without_last : ℕ → List ℕ → List ℕ
without_last n text = take (length text - n) text

-- the metres of a length: kilometres, nautical miles, miles or metres, which need no unit
unfoldable pub radius_of : List ℕ → Option ℕ
radius_of text =
    if ends_with nat_eq text (codes "km") then metres_in 1_000_000 (without_last 2 text)
    else (if ends_with nat_eq text (codes "nm") then metres_in 1_852_000 (without_last 2 text)
    else (if ends_with nat_eq text (codes "ml") then metres_in 1_609_344 (without_last 2 text)
    else (if ends_with nat_eq text (codes "m") then metres_in 1_000 (without_last 1 text)
    else metres_in 1_000 text)))

-- the seconds of a clock, HH:MM:SS, below 24 hours
unfoldable pub clock_of : List ℕ → Option ℕ
clock_of text =
    if (length text == 8) && (slice_index text 2 == byte ":")
    && (slice_index text 5 == byte ":") then
    (do
      hours ← number_of (columns 1 2 text)
      minutes ← number_of (columns 4 5 text)
      seconds ← number_of (columns 7 8 text)
      if nat_le hours 23 && nat_le minutes 59 && nat_le seconds 59
          then Some (3_600 * hours + 60 * minutes + seconds) else None)
    else None
