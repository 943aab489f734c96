-- The fixes of a goal by their places: how high they are, and how far apart.
use Rattle.std.specs.Prelude.{◌≡◌, ℕ, ◌≤◌, ℤ, pos, List, Option, None, Some, slice_get}
use Rattle.gl_sphere.specs.Distance.{squared_chord, written_distance}
use Rattle.gl_igc.specs.declared.fix.Fix.{Fix}
use Rattle.gl_goal.specs.Near.{IsPlaceOf}

abbrev pub altitude_of : Option Fix → ℤ
altitude_of None = pos 0
altitude_of (Some fix) = fix.alt

abbrev pub chord_of : Option Fix → Option Fix → ℕ
chord_of None other = 0
chord_of (Some fix) None = 0
chord_of (Some fix) (Some other) = squared_chord fix.at other.at

-- the altitude of the fix at a place
unfoldable pub altitude_at : List Fix → ℕ → ℤ
altitude_at fixes place = altitude_of (slice_get fixes place)

-- the squared chord between the fixes at two places
unfoldable pub chord : List Fix → ℕ → ℕ → ℕ
chord fixes from to = chord_of (slice_get fixes from) (slice_get fixes to)

-- the distance between the fixes at two places
unfoldable pub leg : List Fix → ℕ → ℕ → ℕ
leg fixes from to = written_distance (chord fixes from to)

-- the places of one span are at most this far from those of another, and single places exactly
pub record IsMost (far : ℕ → ℕ → ℕ) (from to : ℕ × ℕ) (most : ℕ) : Type 0 where
  pub at_most : (i j : ℕ) → IsPlaceOf from i → IsPlaceOf to j → far i j ≤ most
  pub single : from.0 ≡ from.1 → to.0 ≡ to.1 → most ≡ far from.0 to.0
