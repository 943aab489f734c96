-- The volume that the lines of a text say.
use Rattle.std.specs.Prelude.{◌≡◌, ℕ, List, map, Option, None, Some, ℤ}
use Rattle.gl_sphere.specs.declared.place.Grid.{Grid}
use Rattle.gl_sphere.specs.Place.{written_vector}
use Rattle.gl_sphere.specs.PlaceText.{place_of}
use Rattle.gl_airspace.specs.declared.volume.Circle.{Circle}
use Rattle.gl_airspace.specs.declared.volume.Volume.{Volume}
use Rattle.gl_airspace.specs.declared.volume.Shape.{Shape}
use Rattle.gl_airspace.specs.declared.volume.Shape.TheVariants.{Polygon, Circle as Round}
use Rattle.gl_airspace.specs.Volumes.{Reading, floor_in, ceiling_in, corners_in, circle_in}

-- a circle round a place
pub record IsRound (made : Circle) (circle : (ℤ × ℤ) × ℕ) : Type 0 where
  pub grid : Grid
  pub place : place_of grid ≡ circle.0
  pub centre : made.centre ≡ written_vector grid
  pub radius : made.radius ≡ circle.1

abbrev pub IsCircle : Option Circle → Option ((ℤ × ℤ) × ℕ) → Type 0
IsCircle None None = Unit {0}
IsCircle None (Some circle) = ⊥
IsCircle (Some made) None = ⊥
IsCircle (Some made) (Some circle) = IsRound made circle

-- the shape of a volume with these lines: their circle, or the polygon of their corners where they
-- make none
abbrev pub IsShape : List Reading → Shape → Type 0
IsShape lines (Round made) = IsCircle (Some made) (circle_in lines)
IsShape lines (Polygon corners) =
    (circle_in lines ≡ None) × (map place_of corners ≡ corners_in lines)

-- the volume with these lines
pub record IsVolume (lines : List Reading) (volume : Volume) : Type 0 where
  pub floor : Some volume.floor ≡ floor_in lines
  pub ceiling : Some volume.ceiling ≡ ceiling_in lines
  pub shape : IsShape lines volume.shape
