-- Bounds of places.
use Rattle.std.specs.Prelude.{◌≤ℤ◌}
use Rattle.gl_sphere.specs.declared.place.Grid.{Grid}
use Rattle.gl_airspace.specs.declared.polygon.Bounds.{Bounds}

-- a place lies between the bounds, both ends included
pub record IsBounded (bounds : Bounds) (place : Grid) : Type 0 where
  pub south : bounds.south ≤ℤ place.lat
  pub north : place.lat ≤ℤ bounds.north
  pub west : bounds.west ≤ℤ place.lon
  pub east : place.lon ≤ℤ bounds.east
