-- A place as the SeeYou form writes it, in 1/100,000 minute.
use Rattle.std.specs.Prelude.{ℕ, ◌+◌, ◌-◌, ◌*◌, ◌^◌, nat_le, nat_lt, ◌==◌, ◌&&◌, if◌then◌else◌, slice_get, slice_index, slice_range, List, length, take, drop, Option, None, Some, ℤ}
use Rattle.std.specs.Str.{byte}
use Rattle.gl_text.specs.Digits.{◌>>=◌, number_of}
use Rattle.gl_sphere.specs.PlaceText.{signed_by}
use Rattle.gl_sphere.specs.Sphere.{quarter_turn, half_turn}

-- the size of an angle, where the minutes are below 60 and the angle isn't past the limit
unfoldable pub size_of : ℕ → ℕ → ℕ → ℕ → Option ℕ
size_of limit degrees minutes decimals =
    let size = degrees * 6_000_000 + minutes * 100_000 + decimals in
    if nat_lt minutes 60 && nat_le degrees 180 && nat_le size limit then Some size else None

-- the size of an angle by its degrees, its minutes and their three to five decimals
unfoldable pub angle_in : ℕ → List ℕ → List ℕ → List ℕ → Option ℕ
angle_in limit degrees minutes decimals =
    if nat_le 3 (length decimals) && nat_le (length decimals) 5 then
    (do
      d ← number_of degrees
      m ← number_of minutes
      rest ← number_of decimals
      size_of limit d m (rest * 10 ^ (5 - length decimals)))
    else None

-- the size of an angle: so many digits of degrees, two of minutes, a point and three to five more
unfoldable pub angle_of : ℕ → ℕ → List ℕ → Option ℕ
angle_of limit digits text =
    if nat_le (digits + 3) (length text) && (slice_index text (digits + 2) == byte ".") then
    angle_in limit (take digits text) (slice_range text digits (digits + 2))
    (drop (digits + 3) text)
    else None

-- the latitude that DDMM.mmm and N or S say, north positive
unfoldable pub latitude_of : List ℕ → Option ℤ
latitude_of text =
    if length text == 0 then None
    else (do
      size ← angle_of quarter_turn 2 (take (length text - 1) text)
      signed_by (byte "N") (byte "S") (slice_get text (length text - 1)) size)

-- the longitude that DDDMM.mmm and E or W say, east positive
unfoldable pub longitude_of : List ℕ → Option ℤ
longitude_of text =
    if length text == 0 then None
    else (do
      size ← angle_of half_turn 3 (take (length text - 1) text)
      signed_by (byte "E") (byte "W") (slice_get text (length text - 1)) size)

-- the latitude and the longitude of a place
abbrev pub place_by : List ℕ → List ℕ → Option (ℤ × ℤ)
place_by lat lon = do
  north ← latitude_of lat
  east ← longitude_of lon
  Some (north, east)
