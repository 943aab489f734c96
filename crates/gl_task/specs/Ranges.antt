-- The ranges of what a task says by cases.
use Rattle.std.specs.Prelude.{nat_le, ◌&&◌, not, Bool, true}
use Rattle.std.specs.List.{list_all}
use Rattle.gl_sphere.specs.declared.place.Vec3.{Vec3}
use Rattle.gl_zone.specs.declared.line.Line.{Line}
use Rattle.gl_zone.specs.declared.zone.Part.{Part}
use Rattle.gl_zone.specs.declared.zone.Part.TheVariants as zone_part
use Rattle.gl_zone.specs.declared.zone.Zone.{Zone}
use Rattle.gl_task.specs.declared.day_type.Kind.{Kind}
use Rattle.gl_task.specs.declared.day_type.Kind.TheVariants.{Racing, Area}
use Rattle.gl_task.specs.declared.day_type.Finish.{Finish}
use Rattle.gl_task.specs.declared.day_type.Finish.TheVariants.{Ring, Gate}
use Rattle.gl_task.specs.SamePoint.{is_same_vector}

-- the minimum of an area task is 1 to 100,000 s
abbrev pub has_minimum : Kind → Bool
has_minimum Racing = true
has_minimum (Area minimum) = nat_le 1 minimum && nat_le minimum 100_000

-- a line is 100 to 50,000,000 cm wide to each side, and leads towards another point than its centre
abbrev pub has_width_and_way : Line → Bool
has_width_and_way line =
    nat_le 100 line.half && nat_le line.half 50_000_000
    && not (is_same_vector line.centre line.towards)

-- the radius of a finish ring is 100 to 50,000,000 cm; a gate has its width and its way
abbrev pub is_in_range : Finish → Bool
is_in_range (Ring at radius) = nat_le 100 radius && nat_le radius 50_000_000
is_in_range (Gate line) = has_width_and_way line

-- a part is round a point
abbrev pub is_round : Vec3 → Part → Bool
is_round centre (zone_part.Cylinder cylinder) = is_same_vector centre cylinder.centre
is_round centre (zone_part.Sector sector) = is_same_vector centre sector.centre

-- the parts of a zone are round its centre
abbrev pub is_round_its_centre : Zone → Bool
is_round_its_centre zone = list_all (is_round zone.centre) zone.parts
