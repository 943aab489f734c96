-- A line of an airspace text, as it reads.
use Rattle.std.specs.Prelude.{ℕ, ◌+◌, ◌-◌, ◌*◌, ◌/◌, ◌^◌, nat_eq, nat_le, nat_lt, ◌==◌, ◌&&◌, ◌||◌, if◌then◌else◌, Bool, List, [], ◌∷◌, length, drop, take_while, Option, None, Some, option_map, codes, ℤ, pos, neg_ℤ}
use Rattle.std.specs.List.{starts_with}
use Rattle.std.specs.Char.{is_ascii_digit, to_ascii_uppercase}
use Rattle.gl_text.specs.Digits.{◌>>=◌, number_of}
use Rattle.gl_text.specs.Forms.{is_text}

-- what a line says: nothing that counts, the beginning of a volume, its name, its floor, its
-- ceiling, the centre for a circle after it, a corner, or a circle with its radius in centimetres
pub data AirLine : Type 0 where
  PassedOver : AirLine
  Begins : AirLine
  Names : AirLine
  Floor : ℤ → AirLine
  Ceiling : ℤ → AirLine
  Centre : ℤ × ℤ → AirLine
  Corner : ℤ × ℤ → AirLine
  Circles : ℕ → AirLine

-- a space, the byte 32, or a tab, the byte 9
abbrev pub is_blank : ℕ → Bool
is_blank b = (b == 32) || (b == 9)

-- a blank before the rest of a line: nothing at the line's end, and one space with the blanks after
-- it
abbrev pub blank_before : List ℕ → List ℕ
blank_before [] = []
blank_before (b ∷ bs) = if b == 32 then b ∷ bs else 32 ∷ b ∷ bs

-- a line with capital letters, one space for each run of blanks, and none at its end
abbrev pub squeezed : List ℕ → List ℕ
squeezed [] = []
squeezed (b ∷ bs) =
    if is_blank b then blank_before (squeezed bs) else to_ascii_uppercase b ∷ squeezed bs

-- what follows the front of a text, where it has that front
unfoldable pub after : List ℕ → List ℕ → Option (List ℕ)
after front text = if starts_with nat_eq text front then Some (drop (length front) text) else None

-- what follows a space at the front of a text, if there is one
unfoldable pub after_space : List ℕ → List ℕ
after_space text = if starts_with nat_eq text (32 ∷ []) then drop 1 text else text

-- the digits at the front of a text
abbrev pub digits_at : List ℕ → List ℕ
digits_at text = take_while is_ascii_digit text

-- the number that digits at the front of a text write, one at least and not more than `most`, and
-- what follows them
unfoldable pub number_at : ℕ → List ℕ → Option (ℕ × List ℕ)
number_at most text =
    let count = length (digits_at text) in
    if nat_le 1 count && nat_le count most
    then (number_of (digits_at text) >>= λ n. Some (n, drop count text))
    else None

-- the thousandths that one to three decimals at the front of a text write, and what follows them
unfoldable pub decimals_at : List ℕ → Option (ℕ × List ℕ)
decimals_at text =
    number_at 3 text >>= λ n. Some (n.0 * 10 ^ (3 - length (digits_at text)), n.1)

-- the thousandths that a number with perhaps a point and decimals writes, and what follows it
unfoldable pub thousandths_at : ℕ → List ℕ → Option (ℕ × List ℕ)
thousandths_at most text = do
  whole ← number_at most text
  if starts_with nat_eq whole.1 (codes ".")
      then (decimals_at (drop 1 whole.1) >>= λ part. Some (whole.0 * 1000 + part.0, part.1))
      else Some (whole.0 * 1000, whole.1)

-- the size of an angle in 1/100,000 minute that degrees, minutes and perhaps seconds write, the
-- last of which may have decimals, and what follows it; none where the minutes or the seconds are
-- 60 or more
unfoldable pub minutes_at : ℕ → List ℕ → Option (ℕ × List ℕ)
minutes_at degrees text = do
  minutes ← thousandths_at 2 text
  if nat_lt minutes.0 60_000 then Some (degrees * 6_000_000 + minutes.0 * 100, minutes.1) else None

unfoldable pub seconds_at : ℕ → ℕ → List ℕ → Option (ℕ × List ℕ)
seconds_at degrees minutes text = do
  seconds ← thousandths_at 2 text
  if nat_lt minutes 60 && nat_lt seconds.0 60_000
      then Some (degrees * 6_000_000 + minutes * 100_000 + seconds.0 * 5 / 3, seconds.1)
      else None

unfoldable pub angle_at : List ℕ → Option (ℕ × List ℕ)
angle_at text = do
  degrees ← number_at 3 text
  rest ← after (codes ":") degrees.1
  minutes ← number_at 2 rest
  if starts_with nat_eq minutes.1 (codes ":")
      then seconds_at degrees.0 minutes.0 (drop 1 minutes.1)
      else minutes_at degrees.0 rest

-- an angle of a size, by the letter that follows it after a space or none: plus for the first
-- letter, minus for the second; none past the limit
unfoldable pub signed_at : ℕ → List ℕ → List ℕ → ℕ × List ℕ → Option (ℤ × List ℕ)
signed_at limit plus minus angle =
    if nat_lt limit angle.0 then None
    else (if starts_with nat_eq (after_space angle.1) plus
    then Some (pos angle.0, drop 1 (after_space angle.1))
    else (if starts_with nat_eq (after_space angle.1) minus
    then Some (neg_ℤ (pos angle.0), drop 1 (after_space angle.1))
    else None))

-- a latitude, and what follows it
unfoldable pub latitude_at : List ℕ → Option (ℤ × List ℕ)
latitude_at text = angle_at text >>= signed_at 540_000_000 (codes "N") (codes "S")

-- a longitude, and what follows it
unfoldable pub longitude_at : List ℕ → Option (ℤ × List ℕ)
longitude_at text = angle_at text >>= signed_at 1_080_000_000 (codes "E") (codes "W")

-- the place that a text writes: a latitude, a space or none, and a longitude
unfoldable pub place_of_text : List ℕ → Option (ℤ × ℤ)
place_of_text text = do
  lat ← latitude_at text
  lon ← longitude_at (after_space lat.1)
  if length lon.1 == 0 then Some (lat.0, lon.0) else None

-- feet in whole metres
abbrev pub metres : ℕ → ℕ
metres feet = feet * 3_048 / 10_000

-- a unit, with what may stand behind it: above sea level, which is meant anyway
abbrev pub is_feet : List ℕ → Bool
is_feet unit =
    is_text unit (codes "FT") || is_text unit (codes "FT MSL") || is_text unit (codes "FT AMSL")

abbrev pub is_metres : List ℕ → Bool
is_metres unit =
    is_text unit (codes "M") || is_text unit (codes "M MSL") || is_text unit (codes "M AMSL")

-- the metres of a number with a unit behind it, a space before that or none; feet where there is no
-- unit
unfoldable pub height_in : ℕ × List ℕ → Option ℤ
height_in number =
    if (length number.1 == 0) || is_feet (after_space number.1) then Some (pos (metres number.0))
    else (if is_metres (after_space number.1) then Some (pos number.0) else None)

-- the metres of a flight level, which counts hundreds of feet
unfoldable pub flight_level_in : ℕ × List ℕ → Option ℤ
flight_level_in number =
    if length number.1 == 0 then Some (pos (metres (number.0 * 100))) else None

-- the height in metres that a text writes: the surface and what is unlimited lie beyond all
-- altitudes
unfoldable pub height_of : List ℕ → Option ℤ
height_of text =
    if is_text text (codes "SFC") || is_text text (codes "GND") then Some (neg_ℤ (pos 32_768))
    else (if is_text text (codes "UNL") || is_text text (codes "UNLIM") then Some (pos 32_767)
    else (if starts_with nat_eq text (codes "FL") then number_at 6 (drop 2 text) >>= flight_level_in
    else (number_at 6 text >>= height_in)))

-- the radius in centimetres that a text writes in nautical miles, at most 500 of them
unfoldable pub radius_of : List ℕ → Option ℕ
radius_of text = do
  thousandths ← thousandths_at 3 text
  if (length thousandths.1 == 0) && nat_le thousandths.0 500_000
      then Some (thousandths.0 * 1_852 / 10)
      else None

-- what counts for nothing: an empty line, a comment, and a line of a kind that only other programs
-- read
abbrev pub is_passed_over : List ℕ → Bool
is_passed_over line =
    (length line == 0) || starts_with nat_eq line (codes "*")
    || starts_with nat_eq line (codes "AT")
    || starts_with nat_eq line (codes "SP") || starts_with nat_eq line (codes "SB")

-- what a squeezed line says of a shape, by the word at its front
unfoldable pub shape_by : List ℕ → Option AirLine
shape_by line =
    if starts_with nat_eq line (codes "V X=") then option_map Centre (place_of_text (drop 4 line))
    else (if starts_with nat_eq line (codes "DP ")
    then option_map Corner (place_of_text (drop 3 line))
    else (if starts_with nat_eq line (codes "DC ") then option_map Circles (radius_of (drop 3 line))
    else None))

-- what a squeezed line says, by the word at its front
unfoldable pub said_by : List ℕ → Option AirLine
said_by line =
    if is_passed_over line then Some PassedOver
    else (if starts_with nat_eq line (codes "AC ") then Some Begins
    else (if starts_with nat_eq line (codes "AN ") then Some Names
    else (if starts_with nat_eq line (codes "AL ") then option_map Floor (height_of (drop 3 line))
    else (if starts_with nat_eq line (codes "AH ") then option_map Ceiling (height_of (drop 3 line))
    else shape_by line))))

-- what a line of the text says, none where it doesn't read
abbrev pub reading_of : List ℕ → Option AirLine
reading_of line = said_by (squeezed line)
