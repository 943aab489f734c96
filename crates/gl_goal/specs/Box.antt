-- The least box that holds some fixes.
use Rattle.std.specs.Prelude.{ℕ, ◌+◌, ℤ, pos, ◌≤ℤ◌, List, [], ◌∷◌, map, fold, slice_range, All, Contains}
use Rattle.std.specs.Int.{int_min, int_max}
use Rattle.gl_sphere.specs.declared.place.Vec3.{Vec3}
use Rattle.gl_igc.specs.declared.fix.Fix.{Fix}

-- the lowest and the highest value of each component of a point, in centimetres, and of an
-- altitude, in metres
pub record Box : Type 0 where
  pub x : ℤ × ℤ
  pub y : ℤ × ℤ
  pub z : ℤ × ℤ
  pub alt : ℤ × ℤ

-- the box of a single point, at altitude 0
abbrev pub point_box : Vec3 → Box
point_box point = record {
  x = (point.x, point.x);
  y = (point.y, point.y);
  z = (point.z, point.z);
  alt = (pos 0, pos 0);
}

-- a value lies between two ends
abbrev pub IsBetween : ℤ × ℤ → ℤ → Type 0
IsBetween ends value = (ends.0 ≤ℤ value) × (value ≤ℤ ends.1)

-- a point lies in a box
pub record IsInside (box : Box) (point : Vec3) : Type 0 where
  pub x : IsBetween box.x point.x
  pub y : IsBetween box.y point.y
  pub z : IsBetween box.z point.z

-- the least and the greatest of some values
unfoldable pub ends_of : List ℤ → ℤ × ℤ
ends_of [] = (pos 0, pos 0)
ends_of (value ∷ values) = (fold int_min value values, fold int_max value values)

-- the fixes at the places of a span, from the first to the last
abbrev pub fixes_in : List Fix → ℕ × ℕ → List Fix
fixes_in fixes span = slice_range fixes span.0 (span.1 + 1)

-- the least box that holds some fixes
abbrev pub hull_of : List Fix → Box
hull_of fixes = record {
  x = ends_of (map (λ fix. fix.at.x) fixes);
  y = ends_of (map (λ fix. fix.at.y) fixes);
  z = ends_of (map (λ fix. fix.at.z) fixes);
  alt = ends_of (map (λ fix. fix.alt) fixes);
}

-- all of some values lie between two ends, and each end is one of them
pub record AreEnds (ends : ℤ × ℤ) (values : List ℤ) : Type 0 where
  pub between : All (IsBetween ends) values
  pub lower_reached : Contains values ends.0
  pub upper_reached : Contains values ends.1

-- a box holds each of some fixes, and each of its ends is reached by one
pub record IsLeastBox (box : Box) (fixes : List Fix) : Type 0 where
  pub x : AreEnds box.x (map (λ fix. fix.at.x) fixes)
  pub y : AreEnds box.y (map (λ fix. fix.at.y) fixes)
  pub z : AreEnds box.z (map (λ fix. fix.at.z) fixes)
  pub alt : AreEnds box.alt (map (λ fix. fix.alt) fixes)
