-- How near two flights came, or a flight and a place: which pairs fit, how far apart they are, and
-- the two tests of a cell of pairs. No search, no order of work.
use Rattle.std.specs.Prelude.{◌≡◌, ℕ, ◌-◌, ◌≤◌, ◌<◌, ◌⊎◌, IsTrue, List, [], ◌∷◌, length, map, Option, None, Some, slice_get, pos, ◌-ℤ◌, ◌<ℤ◌, unsigned_abs}
use Rattle.gl_sphere.specs.declared.place.Vec3.{Vec3}
use Rattle.gl_sphere.specs.Distance.{written_distance, distance}
use Rattle.gl_igc.specs.declared.fix.Fix.{Fix}
use Rattle.gl_igc.specs.Seconds.{is_rising}
use Rattle.gl_goal.specs.Box.{Box, fixes_in, hull_of, point_box}
use Rattle.gl_goal.specs.Chords.{least_chord}
use Rattle.gl_box.specs.Halves.{span_at}

-- what the pairs are of: two flights, with the seconds that the fixes of a pair may be apart at
-- most; or a flight and a place, whose number is 0
pub data Pairing : Type 0 where
  flights : (one other : List Fix) (apart : ℕ) → Pairing
  place : (flight : List Fix) (point : Vec3) → Pairing

-- the seconds of fixes rise
abbrev pub AreRising : List Fix → Type 0
AreRising fixes = IsTrue (is_rising (map (λ fix. fix.second) fixes))

-- the fixes with these numbers differ by at most `apart` seconds, and so many centimetres lie
-- between them
pub record AreFixesAt (one other : List Fix) (apart total first second : ℕ) : Type 0 where
  pub fix : Fix
  pub other_fix : Fix
  pub there : slice_get one first ≡ Some fix
  pub other_there : slice_get other second ≡ Some other_fix
  pub near_in_time : unsigned_abs (fix.second -ℤ other_fix.second) ≤ apart
  pub is : distance fix.at other_fix.at ≡ total

-- so many centimetres lie between the fix with this number and the place
pub record IsFixAt (flight : List Fix) (point : Vec3) (total first second : ℕ) : Type 0 where
  pub fix : Fix
  pub there : slice_get flight first ≡ Some fix
  pub only : second ≡ 0
  pub is : distance fix.at point ≡ total

-- the pair of these numbers fits, and has this distance
abbrev pub IsReached : Pairing → ℕ → ℕ → ℕ → Type 0
IsReached (flights one other apart) total first second =
    AreFixesAt one other apart total first second
IsReached (place flight point) total first second = IsFixAt flight point total first second

-- the pair fits
abbrev pub Fits : Pairing → ℕ → ℕ → Type 0
Fits pairing first second = (total : ℕ) × IsReached pairing total first second

-- The least distance: none where no pair fits, else what a pair that fits has as its distance where
-- no pair that fits has less.
abbrev pub IsLeast : Pairing → Option ℕ → Type 0
IsLeast pairing None = (first second : ℕ) → Fits pairing first second → ⊥
IsLeast pairing (Some total) =
    ((first : ℕ) × (second : ℕ) × IsReached pairing total first second)
    × ((first second distance : ℕ) → IsReached pairing distance first second → total ≤ distance)

-- a fix of one flight is more than `apart` seconds after a fix of another
pub record IsAfter (one other : List Fix) (apart first second : ℕ) : Type 0 where
  pub fix : Fix
  pub other_fix : Fix
  pub there : slice_get one first ≡ Some fix
  pub other_there : slice_get other second ≡ Some other_fix
  pub after : pos apart <ℤ (fix.second -ℤ other_fix.second)

-- the first fix of one span is more than `apart` seconds after the last one of the other
abbrev pub AreApart : List Fix → List Fix → ℕ → ℕ × ℕ → ℕ × ℕ → Type 0
AreApart one other apart span other_span =
    IsAfter one other apart span.0 other_span.1 ⊎ IsAfter other one apart other_span.0 span.1

-- a cell of pairs is closed by time
abbrev pub IsApart : Pairing → List (ℕ × ℕ) → Type 0
IsApart (flights one other apart) cell =
    AreApart one other apart (span_at cell 0) (span_at cell 1)
IsApart (place flight point) cell = ⊥

-- the least distance of two points, one in each box
abbrev pub least_distance : Box → Box → ℕ
least_distance one other = written_distance (least_chord one other)

-- no pair of a cell is nearer than its hulls
abbrev pub least : Pairing → List (ℕ × ℕ) → ℕ
least (flights one other apart) cell =
    least_distance (hull_of (fixes_in one (span_at cell 0)))
    (hull_of (fixes_in other (span_at cell 1)))
least (place flight point) cell =
    least_distance (hull_of (fixes_in flight (span_at cell 0))) (point_box point)

-- the whole cell has each pair
abbrev pub whole_cell : Pairing → List (ℕ × ℕ)
whole_cell (flights one other apart) = (0, length one - 1) ∷ (0, length other - 1) ∷ []
whole_cell (place flight point) = (0, length flight - 1) ∷ (0, 0) ∷ []

-- two flights that pairs can be taken of
pub record AreFlights (one other : List Fix) : Type 0 where
  pub some_fix : 0 < length one
  pub some_other : 0 < length other
  pub rising : AreRising one
  pub others_rising : AreRising other

-- each flight has a fix, and where there are two the seconds rise
abbrev pub IsPairing : Pairing → Type 0
IsPairing (flights one other apart) = AreFlights one other
IsPairing (place flight point) = 0 < length flight
