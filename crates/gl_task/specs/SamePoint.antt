-- Points of the sphere by their vectors.
use Rattle.std.specs.Prelude.{◌&&◌, Bool}
use Rattle.std.specs.Ordering.{int_eq}
use Rattle.gl_sphere.specs.declared.place.Vec3.{Vec3}

-- the two points are one
unfoldable pub is_same_vector : Vec3 → Vec3 → Bool
is_same_vector a b = int_eq a.x b.x && int_eq a.y b.y && int_eq a.z b.z
