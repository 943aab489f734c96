-- What is inside a volume of airspace.
use Rattle.std.specs.Prelude.{ℕ, ◌%◌, Bool, ◌&&◌, nat_le, ◌==◌, if◌then◌else◌, count_by, List, [], ◌∷◌, ◌-ℤ◌, ◌*ℤ◌, int_le, int_lt, length, position, slice_get, unwrap_or, Option, None, Some, ◌-◌}
use Rattle.std.specs.List.{list_any}
use Rattle.gl_sphere.specs.declared.place.Grid.{Grid}
use Rattle.gl_sphere.specs.declared.place.Vec3.{Vec3}
use Rattle.gl_sphere.specs.Distance.{squared_chord, written_distance}
use Rattle.gl_igc.specs.declared.fix.Fix.{Fix}
use Rattle.gl_airspace.specs.declared.volume.Volume.{Volume}
use Rattle.gl_airspace.specs.declared.volume.Shape as shape
use Rattle.gl_airspace.specs.declared.volume.Shape.TheVariants.{Polygon, Circle}
use Rattle.gl_airspace.specs.declared.volume.Circle as circle

-- the edges from a corner to the first of some others, and from each of them to the next
abbrev pub edges_from : Grid → List Grid → List (Grid × Grid)
edges_from corner [] = []
edges_from corner (next ∷ corners) = (corner, next) ∷ edges_from next corners

-- the edges of a polygon with these corners, the last of which is joined to the first
abbrev pub edges_round : Option Grid → List Grid → List (Grid × Grid)
edges_round None corners = []
edges_round (Some last) corners = edges_from last corners

abbrev pub edges_of : List Grid → List (Grid × Grid)
edges_of corners = edges_round (slice_get corners (length corners - 1)) corners

-- a place is on a level with an edge, from its lower end on and below its upper one
abbrev pub is_level : Grid → Grid → Grid → Bool
is_level lower upper place = int_le lower.lat place.lat && int_lt place.lat upper.lat

-- a place on a level with an edge from its lower end to its upper one lies west of it
abbrev pub is_west_of : Grid → Grid → Grid → Bool
is_west_of lower upper place =
    int_lt ((place.lon -ℤ lower.lon) *ℤ (upper.lat -ℤ lower.lat))
    ((upper.lon -ℤ lower.lon) *ℤ (place.lat -ℤ lower.lat))

-- an edge from its lower end to its upper one counts for a place on a level with it that lies west
-- of it
abbrev pub counts_upwards : Grid → Grid → Grid → Bool
counts_upwards lower upper place = is_level lower upper place && is_west_of lower upper place

-- an edge counts, taken with its lower end first
abbrev pub counts : Grid → Grid × Grid → Bool
counts place edge =
    if int_le edge.0.lat edge.1.lat then counts_upwards edge.0 edge.1 place
    else counts_upwards edge.1 edge.0 place

-- a place is in a polygon where an odd number of its edges count
unfoldable pub is_in_polygon : List Grid → Grid → Bool
is_in_polygon corners place = count_by (counts place) (edges_of corners) % 2 == 1

-- a point is in a circle where its distance to the centre is at most the radius
abbrev pub is_in_circle : circle.Circle → Vec3 → Bool
is_in_circle round at = nat_le (written_distance (squared_chord at round.centre)) round.radius

-- a fix is in a shape on the map
abbrev pub is_in_shape : shape.Shape → Fix → Bool
is_in_shape (Polygon corners) fix = is_in_polygon corners fix.grid
is_in_shape (Circle round) fix = is_in_circle round fix.at

-- A fix is inside a volume: its altitude is from the floor to the ceiling, both of them inside, and
-- it is in the shape.
abbrev pub is_inside : Volume → Fix → Bool
is_inside volume fix =
    int_le volume.floor fix.alt && int_le fix.alt volume.ceiling && is_in_shape volume.shape fix

-- how many fixes stand before the first one inside a volume, or all of them
abbrev pub fixes_before_airspace : List Volume → List Fix → ℕ
fixes_before_airspace volumes fixes =
    unwrap_or (position (λ fix. list_any (λ volume. is_inside volume fix) volumes) fixes)
    (length fixes)
