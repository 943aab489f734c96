-- A place as text: degrees, minutes with three decimals, and the letter of the hemisphere.
use Rattle.std.specs.Prelude.{ℕ, ◌+◌, ◌*◌, nat_le, nat_lt, ◌==◌, ◌&&◌, if◌then◌else◌, List, length, Option, None, Some, slice_get, ℤ, pos, neg_ℤ}
use Rattle.std.specs.Str.{byte}
use Rattle.gl_text.specs.Digits.{◌>>=◌, columns, number_of}
use Rattle.gl_sphere.specs.Sphere.{quarter_turn, half_turn}
use Rattle.gl_sphere.specs.declared.place.Grid.{Grid}

-- a degree, and a thousandth of a minute, in 1/100,000 minute
abbrev pub degree : ℕ
degree = 6_000_000

abbrev pub thousandth : ℕ
thousandth = 100

-- the thousandths of a minute in a degree
abbrev pub thousandths_of_degree : ℕ
thousandths_of_degree = 60_000

-- the size of an angle, from degrees, thousandths of a minute and the two decimals after them; none
-- where the minutes are 60 or more or the angle is past the limit
unfoldable pub angle_of : ℕ → ℕ → ℕ → ℕ → Option ℕ
angle_of limit degrees thousandths decimals =
    let size = degrees * degree + thousandths * thousandth + decimals in
    if nat_lt thousandths thousandths_of_degree && nat_le size limit then Some size else None

-- a size with the sign of a letter: plus for the first letter, minus for the second
unfoldable pub signed_by : ℕ → ℕ → Option ℕ → ℕ → Option ℤ
signed_by plus minus None size = None
signed_by plus minus (Some letter) size =
    if letter == plus then Some (pos size)
    else (if letter == minus then Some (neg_ℤ (pos size)) else None)

-- the latitude that DDMMmmm and N or S say, with two decimals more
unfoldable pub latitude_of : ℕ → List ℕ → Option ℤ
latitude_of decimals text = do
  degrees ← number_of (columns 1 2 text)
  thousandths ← number_of (columns 3 7 text)
  size ← angle_of quarter_turn degrees thousandths decimals
  signed_by (byte "N") (byte "S") (slice_get text 7) size

-- the longitude that DDDMMmmm and E or W say, with two decimals more
unfoldable pub longitude_of : ℕ → List ℕ → Option ℤ
longitude_of decimals text = do
  degrees ← number_of (columns 1 3 text)
  thousandths ← number_of (columns 4 8 text)
  size ← angle_of half_turn degrees thousandths decimals
  signed_by (byte "E") (byte "W") (slice_get text 8) size

-- the latitude and longitude that 17 bytes say
unfoldable pub place_of_text : List ℕ → Option (ℤ × ℤ)
place_of_text text =
    if length text == 17 then
    (do
      lat ← latitude_of 0 (columns 1 8 text)
      lon ← longitude_of 0 (columns 9 17 text)
      Some (lat, lon))
    else None

-- a place as its latitude and longitude
abbrev pub place_of : Grid → ℤ × ℤ
place_of grid = (grid.lat, grid.lon)
