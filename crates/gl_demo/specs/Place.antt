-- Places of the grid, in numbers of which a degree has 6,000,000.
use Rattle.std.specs.Prelude.{ℕ, ◌+◌, ◌-◌, ◌*◌}
use Rattle.gl_demo.specs.declared.place.Place.{Place}
use Rattle.gl_demo.specs.Draws.{drawn}

-- a coordinate moved by an offset from -600,000 to 600,000 in steps of 100, for what was drawn
abbrev pub moved : ℕ → ℕ → ℕ
moved coordinate draw = coordinate + 100 * draw - 600_000

-- the place moved by offsets that are drawn from a value, first of latitude and then of longitude
unfoldable pub moved_place : Place → ℕ → Place
moved_place place x = record {
  latitude = moved place.latitude (drawn x 0 12_001);
  longitude = moved place.longitude (drawn x 1 12_001);
}
