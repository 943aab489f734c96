-- The place that a value says.
use Rattle.std.specs.Prelude.{◌≡◌, ℕ, if◌then◌else◌, refl, List, Option, None, Some, option_and_then, Bool, true, ℤ, pos, neg_ℤ}
use Rattle.std.proofs.lemmas.Float.{T_from_true}
use Rattle.std.specs.Int.Signed.{◌≤ℤ◌, le_z, le_z_yes}
use Rattle.gl_sphere.specs.Place.{written_vector}
use Rattle.gl_sphere.specs.PlaceText.{place_of_text}
use Rattle.gl_sphere.specs.Sphere.{quarter_turn, half_turn}
use Rattle.gl_sphere.specs.declared.place.Grid.{Grid}
use Rattle.gl_task.specs.SamePoint.{is_same_vector}
use Rattle.toml.specs.Data.{Data, as_str}

abbrev pub at_most_by : (a b : ℤ) → le_z a b ≡ true → a ≤ℤ b
at_most_by a b is = le_z_yes (T_from_true (le_z a b) is)

-- the place with these angles, where all four tests of its range hold
abbrev pub grid_by_tests : (lat lon : ℤ) (south north west east : Bool)
    → le_z (neg_ℤ (pos quarter_turn)) lat ≡ south → le_z lat (pos quarter_turn) ≡ north
    → le_z (neg_ℤ (pos half_turn)) lon ≡ west → le_z lon (pos half_turn) ≡ east → Option Grid
grid_by_tests lat lon true true true true a b c d = Some
    (record {
      lat = lat;
      lon = lon;
      lat_in_range = (at_most_by _ _ a, at_most_by _ _ b);
      lon_in_range = (at_most_by _ _ c, at_most_by _ _ d);
    })
grid_by_tests lat lon _ _ _ _ a b c d = None

-- the place with a latitude and a longitude
unfoldable pub grid_at : ℤ × ℤ → Option Grid
grid_at angles =
    grid_by_tests angles.0 angles.1 (le_z (neg_ℤ (pos quarter_turn)) angles.0)
    (le_z angles.0 (pos quarter_turn)) (le_z (neg_ℤ (pos half_turn)) angles.1)
    (le_z angles.1 (pos half_turn)) refl refl refl refl

-- the place that a text of 17 bytes says
unfoldable pub grid_of_text : List ℕ → Option Grid
grid_of_text text = option_and_then grid_at (place_of_text text)

abbrev pub place : Data → Option Grid
place value = option_and_then grid_of_text (as_str value)

-- the two places are one point of the sphere
abbrev pub is_same_point : Grid → Grid → Bool
is_same_point a b = is_same_vector (written_vector a) (written_vector b)

-- another place, where it is another point
unfoldable pub other_point : Grid → Grid → Option Grid
other_point from to = if is_same_point from to then None else Some to

-- the place that a value says, where it isn't the same point as a place from which it leads away
abbrev pub place_away_from : Option Grid → Data → Option Grid
place_away_from None value = place value
place_away_from (Some from) value = option_and_then (other_point from) (place value)
