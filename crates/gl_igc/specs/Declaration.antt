-- The C lines of a recording: the places that the pilot declared before the flight.
use Rattle.std.specs.Prelude.{ℕ, ◌+◌, nat_le, ◌==◌, ◌&&◌, if◌then◌else◌, List, [], ◌∷◌, length, take, filter, slice_index, Option, None, Some, Bool, ℤ}
use Rattle.std.specs.Char.{is_ascii_digit}
use Rattle.std.specs.List.{list_all}
use Rattle.std.specs.Str.{byte}
use Rattle.gl_text.specs.Digits.{◌>>=◌, columns, number_of}
use Rattle.gl_sphere.specs.PlaceText.{place_of_text}

abbrev pub is_declaration_line : List ℕ → Bool
is_declaration_line line = slice_index line 0 == byte "C"

-- how many places a heading declares, which says the number of turn points in columns 24 and 25:
-- these, and take-off, start, finish and landing. None where one of columns 2 to 25 has no digit.
unfoldable pub declared_count : List ℕ → Option ℕ
declared_count heading =
    if nat_le 25 (length heading) && list_all is_ascii_digit (columns 2 25 heading) then
    (do
      turn_points ← number_of (columns 24 25 heading)
      Some (turn_points + 4))
    else None

-- the places of some lines, in columns 2 to 18; none where one doesn't read
abbrev pub places_of : List (List ℕ) → Option (List (ℤ × ℤ))
places_of [] = Some []
places_of (line ∷ lines) = do
  place ← place_of_text (columns 2 18 line)
  places ← places_of lines
  Some (place ∷ places)

-- the places that a heading and the lines after it declare; none where there are too few lines or
-- one doesn't read
unfoldable pub declared_by : List (List ℕ) → Option (List (ℤ × ℤ))
declared_by [] = None
declared_by (heading ∷ lines) = do
  count ← declared_count heading
  if nat_le count (length lines) then places_of (take count lines) else None

-- the places that a text's C lines declare
unfoldable pub declared_places : List (List ℕ) → Option (List (ℤ × ℤ))
declared_places lines = declared_by (filter is_declaration_line lines)
