-- What lies beside the bounds of places.
use Rattle.std.specs.Prelude.{Bool, not, ◌&&◌, int_le, int_lt}
use Rattle.gl_sphere.specs.declared.place.Grid.{Grid}
use Rattle.gl_airspace.specs.declared.polygon.Bounds.{Bounds}

-- a place is on a level with the bounds, from the southern one on and below the northern one
abbrev pub is_within_latitudes : Bounds → Grid → Bool
is_within_latitudes bounds place = int_le bounds.south place.lat && int_lt place.lat bounds.north

-- a place is between the western bound and the eastern one, from the former on and west of the
-- latter
abbrev pub is_between : Bounds → Grid → Bool
is_between bounds place = int_le bounds.west place.lon && int_lt place.lon bounds.east

-- a place isn't on a level with the bounds, or not between them
abbrev pub is_beside : Bounds → Grid → Bool
is_beside bounds place = not (is_within_latitudes bounds place && is_between bounds place)
