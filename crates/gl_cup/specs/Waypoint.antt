-- The waypoints of rows, and the place of those with a name.
use Rattle.std.specs.Prelude.{ℕ, ◌&&◌, ◌||◌, not, if◌then◌else◌, List, Option, None, Some, position, is_none, slice_get, codes, map, Bool, false, ℤ}
use Rattle.std.specs.Char.{to_ascii_lowercase}
use Rattle.std.specs.List.{find, list_all}
use Rattle.std.specs.Ordering.{int_eq}
use Rattle.gl_text.specs.Digits.{◌>>=◌}
use Rattle.gl_text.specs.Forms.{is_text}
use Rattle.gl_cup.specs.Angle.{place_by}
use Rattle.gl_cup.specs.declared.row.Row.{Row}
use Rattle.gl_cup.specs.declared.waypoint.Columns.{Columns}

-- a title of a column is a word, in small letters or capitals
abbrev pub is_title : List ℕ → List ℕ → Bool
is_title word field = is_text (map to_ascii_lowercase field) word

abbrev pub is_either : List ℕ → List ℕ → List ℕ → Bool
is_either one other field = is_title one field || is_title other field

-- where a header has the name, the latitude and the longitude
unfoldable pub columns_of : List (List ℕ) → Option Columns
columns_of fields = do
  name ← position (is_either (codes "name") (codes "title")) fields
  lat ← position (is_either (codes "lat") (codes "latitude")) fields
  lon ← position (is_either (codes "lon") (codes "longitude")) fields
  Some (record { name = name; lat = lat; lon = lon })

-- a place: its latitude and its longitude in 1/100,000 minute
abbrev pub Place : Type 0
Place = ℤ × ℤ

-- the place of a row; none of one that isn't whole
unfoldable pub place_in : Columns → List (List ℕ) → Option Place
place_in c fields = do
  lat ← slice_get fields c.lat
  lon ← slice_get fields c.lon
  place_by lat lon

abbrev pub place_at : Columns → Row → Option Place
place_at c row = if row.is_whole then place_in c row.fields else None

-- a row is that of a waypoint with a name
abbrev pub has_text : List ℕ → Option (List ℕ) → Bool
has_text text None = false
has_text text (Some field) = is_text field text

abbrev pub is_named : Columns → List ℕ → Row → Bool
is_named c name row = has_text name (slice_get row.fields c.name)

-- it has the name, but no place
abbrev pub is_damaged : Columns → List ℕ → Row → Bool
is_damaged c name row = is_named c name row && is_none (place_at c row)

-- two places are one
abbrev pub is_one_place : Place → Place → Bool
is_one_place a b = int_eq a.0 b.0 && int_eq a.1 b.1

abbrev pub is_there : Place → Option Place → Bool
is_there place None = false
is_there place (Some other) = is_one_place other place

-- a row has another name, or this place
abbrev pub agrees : Columns → List ℕ → Place → Row → Bool
agrees c name place row = not (is_named c name row) || is_there place (place_at c row)

-- a place, where all rows with a name have it
abbrev pub place_if : Bool → Place → Option Place
place_if test place = if test then Some place else None

-- the place of the rows with a name; none where there is none, and where two are apart
unfoldable pub place_of : Columns → List ℕ → List Row → Option Place
place_of c name rows = do
  row ← find (is_named c name) rows
  place ← place_at c row
  place_if (list_all (agrees c name place) rows) place
