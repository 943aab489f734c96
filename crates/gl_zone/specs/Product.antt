use Rattle.std.specs.Prelude.{ℕ, ◌*◌, ℤ, ◌+ℤ◌, ◌*ℤ◌}
use Rattle.gl_sphere.specs.declared.place.Vec3.{Vec3}
use Rattle.gl_sphere.specs.Sphere.{radius}

-- the scalar product of two vectors
unfoldable pub scalar_product : Vec3 → Vec3 → ℤ
scalar_product a b = (a.x *ℤ b.x) +ℤ (a.y *ℤ b.y) +ℤ (a.z *ℤ b.z)

-- the greatest product of two components
abbrev pub greatest_product : ℕ
greatest_product = radius * radius

-- the greatest scalar product of two vectors
abbrev pub greatest_scalar_product : ℕ
greatest_scalar_product = 3 * greatest_product
