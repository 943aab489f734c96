-- On which side of a line a point lies.
use Rattle.std.specs.Prelude.{ℕ, ◌*◌, ℤ, ◌+ℤ◌, ◌-ℤ◌, ◌*ℤ◌}
use Rattle.gl_sphere.specs.declared.place.Vec3.{Vec3}
use Rattle.gl_sphere.specs.Sphere.{radius}
use Rattle.gl_zone.specs.declared.line.Line.{Line}
use Rattle.gl_zone.specs.Product.{scalar_product, greatest_scalar_product}

-- a component of Q·(P·P) - P·(P·Q), the direction over a line with the centre P towards Q, where p
-- and q are that component of P and Q
unfoldable pub forwards : Line → ℤ → ℤ → ℤ
forwards line p q =
    (q *ℤ scalar_product line.centre line.centre) -ℤ (p *ℤ scalar_product line.centre line.towards)

-- the side of a point: negative before the line, and 0 or more on it and behind it
unfoldable pub side_of : Line → Vec3 → ℤ
side_of line x =
    (forwards line line.centre.x line.towards.x *ℤ x.x)
    +ℤ (forwards line line.centre.y line.towards.y *ℤ x.y)
    +ℤ (forwards line line.centre.z line.towards.z *ℤ x.z)

-- the greatest component of the direction over a line
abbrev pub greatest_forwards : ℕ
greatest_forwards = 2 * (radius * greatest_scalar_product)

-- the greatest product of such a component and one of a point
abbrev pub greatest_share_of_side : ℕ
greatest_share_of_side = greatest_forwards * radius

-- the greatest side of a point
abbrev pub greatest_side : ℕ
greatest_side = 3 * greatest_share_of_side
