-- Places of the grid that the code can move.
use Rattle.std.specs.Prelude.{◌≤◌}
use Rattle.gl_demo.specs.declared.place.Place.{Place}

-- a place of the northern and eastern grid
abbrev pub IsOnGrid : Place → Type 0
IsOnGrid place = (place.latitude ≤ 1_080_000_000) × (place.longitude ≤ 1_080_000_000)

-- a place that can be moved by every offset
pub record HasRoom (place : Place) : Type 0 where
  pub south : 600_000 ≤ place.latitude
  pub north : place.latitude ≤ 1_000_000_000
  pub west : 600_000 ≤ place.longitude
  pub east : place.longitude ≤ 1_000_000_000
