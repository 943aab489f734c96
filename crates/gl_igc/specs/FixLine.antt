-- The B lines of a recording.
use Rattle.std.specs.Prelude.{ℕ, nat_le, ◌==◌, ◌&&◌, codes, if◌then◌else◌, List, ◌++◌, length, take, slice_index, Option, None, Some, Bool, ℤ, pos, int_le}
use Rattle.std.specs.Char.{is_ascii_digit}
use Rattle.std.specs.List.{list_all}
use Rattle.std.specs.Option.{option_map_or}
use Rattle.std.specs.Str.{byte}
use Rattle.std.specs.Str.Parse.{digits_value}
use Rattle.gl_text.specs.Digits.{◌>>=◌, columns, number_of}
use Rattle.gl_sphere.specs.PlaceText.{latitude_of, longitude_of}
use Rattle.gl_igc.specs.Columns.{time_of_day, altitude_of}
use Rattle.gl_igc.specs.Extension.{Span, Extension}

-- what a B line says: its second of the day, its place in 1/100,000 minute, its altitude in metres
-- and its engine noise
pub record Observation : Type 0 where
  pub time : ℕ
  pub lat : ℤ
  pub lon : ℤ
  pub alt : ℤ
  pub enl : Option ℕ

-- the greatest altitude in metres
abbrev pub highest : ℤ
highest = pos 32_767

abbrev pub is_fix_line : List ℕ → Bool
is_fix_line line = slice_index line 0 == byte "B"

-- the digits of a field; none where the line is too short for it or a byte of it is no digit
unfoldable pub field_digits : Option Span → List ℕ → Option (List ℕ)
field_digits None line = None
field_digits (Some span) line =
    let field = columns span.start span.finish line in
    if nat_le span.finish (length line) && list_all is_ascii_digit field then Some field else None

-- the decimals of a field of LAD or LOD: its first two digits, of which one counts ten times; 0
-- without a field
unfoldable pub decimals_of : Option Span → List ℕ → ℕ
decimals_of span line =
    let value : List ℕ → ℕ = λ digits. digits_value 10 (take 2 (digits ++ codes "0")) in
    option_map_or value (field_digits span line) 0

-- the engine noise, which has three digits
unfoldable pub noise_of : Option Span → List ℕ → Option ℕ
noise_of span line = do
  digits ← field_digits span line
  if length digits == 3 then number_of digits else None

-- what an undamaged B line with validity A says; none of any other line. Its pressure altitude has
-- to read and isn't kept.
unfoldable pub observation_of : Extension → List ℕ → Option Observation
observation_of extension line =
    if nat_le 35 (length line) && is_fix_line line && (slice_index line 24 == byte "A") then
    (do
      time ← time_of_day line
      lat ← latitude_of (decimals_of extension.lad line) (columns 8 15 line)
      lon ← longitude_of (decimals_of extension.lod line) (columns 16 24 line)
      pressure ← altitude_of (columns 26 30 line)
      alt ← altitude_of (columns 31 35 line)
      let enl = noise_of extension.enl line in
          if int_le alt highest
          then Some (record { time = time; lat = lat; lon = lon; alt = alt; enl = enl }) else None)
    else None
