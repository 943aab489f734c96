-- Which points are in a zone.
use Rattle.std.specs.Prelude.{ℕ, ◌+◌, ◌-◌, ◌*◌, ◌%◌, Bool, true, ◌&&◌, ◌||◌, ◌==◌, nat_le, nat_lt, if◌then◌else◌, ℤ, pos, ◌-ℤ◌, ◌*ℤ◌, int_le}
use Rattle.std.specs.List.{list_any}
use Rattle.gl_sphere.specs.declared.place.Vec3.{Vec3}
use Rattle.gl_sphere.specs.Distance.{distance}
use Rattle.gl_sphere.specs.Sine.{written_sine, written_cosine}
use Rattle.gl_sphere.specs.Sphere.{half_turn}
use Rattle.gl_zone.specs.declared.zone.Cylinder as cylinder
use Rattle.gl_zone.specs.declared.zone.Sector as sector
use Rattle.gl_zone.specs.declared.zone.Part as part
use Rattle.gl_zone.specs.declared.zone.Part.TheVariants.{Cylinder, Sector}
use Rattle.gl_zone.specs.declared.zone.Zone.{Zone}
use Rattle.gl_zone.specs.Limits.{whole_turn}
use Rattle.gl_zone.specs.Product.{scalar_product}

-- a point is in a cylinder
abbrev pub is_in_cylinder : cylinder.Cylinder → Vec3 → Bool
is_in_cylinder c x = nat_le (distance x c.centre) c.radius

-- the direction of a point from a sector's centre, by its parts towards north and towards east
abbrev pub direction_of : sector.Sector → Vec3 → ℤ × ℤ
direction_of s x = (scalar_product s.north x, scalar_product s.east x)

-- a radial of r thousandths of a degree in 1/100,000 minute, from -180 to 180 degrees
unfoldable pub angle_of : ℕ → ℤ
angle_of r =
    if nat_lt half_turn (6_000 * r) then pos (6_000 * r) -ℤ pos (2 * half_turn) else pos (6_000 * r)

-- the direction of a radial, by its parts towards north and towards east
abbrev pub radial_of : ℕ → ℤ × ℤ
radial_of r = (written_cosine (angle_of r), written_sine (angle_of r))

-- how b turns from a: 0 or more where b lies up to 180 degrees clockwise of a
abbrev pub cross : ℤ × ℤ → ℤ × ℤ → ℤ
cross a b = (a.0 *ℤ b.1) -ℤ (a.1 *ℤ b.0)

-- a direction b lies up to 180 degrees clockwise of a
abbrev pub is_clockwise : ℤ × ℤ → ℤ × ℤ → Bool
is_clockwise a b = int_le (pos 0) (cross a b)

-- the angle from a sector's first radial clockwise to its second, in thousandths of a degree
abbrev pub width_of : sector.Sector → ℕ
width_of s = (s.to + whole_turn - s.from) % whole_turn

-- a direction lies between a sector's radials, clockwise
abbrev pub is_between_radials : sector.Sector → ℤ × ℤ → Bool
is_between_radials s x =
    if width_of s == 0 then true else
    (if nat_le (width_of s) 180_000
    then is_clockwise (radial_of s.from) x && is_clockwise x (radial_of s.to)
    else is_clockwise (radial_of s.from) x || is_clockwise x (radial_of s.to))

-- a point lies between a sector's two distances
abbrev pub is_between_distances : sector.Sector → Vec3 → Bool
is_between_distances s x =
    nat_le s.inner (distance x s.centre) && nat_le (distance x s.centre) s.outer

-- a point is in a sector
abbrev pub is_in_sector : sector.Sector → Vec3 → Bool
is_in_sector s x = is_between_distances s x && is_between_radials s (direction_of s x)

-- a point is in a part of a zone
abbrev pub is_in_part : part.Part → Vec3 → Bool
is_in_part (Cylinder c) x = is_in_cylinder c x
is_in_part (Sector s) x = is_in_sector s x

-- a point is in a zone where it is in one of its parts
abbrev pub is_in_zone : Zone → Vec3 → Bool
is_in_zone zone x = list_any (λ part. is_in_part part x) zone.parts
