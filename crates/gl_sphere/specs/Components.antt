use Rattle.std.specs.Prelude.{ℤ, neg_ℤ}
use Rattle.gl_sphere.specs.Product.{product, scaled}
use Rattle.gl_sphere.specs.Sine.{written_sine, written_cosine}
use Rattle.gl_sphere.specs.declared.place.Grid.{Grid}

-- the component of a place's point towards latitude 0 and longitude 0
unfoldable pub written_x : Grid → ℤ
written_x g = scaled (product (written_cosine g.lat) (written_cosine g.lon))

-- the component towards 90 degrees east
unfoldable pub written_y : Grid → ℤ
written_y g = scaled (product (written_cosine g.lat) (written_sine g.lon))

-- the component towards the north pole
unfoldable pub written_z : Grid → ℤ
written_z g = scaled (written_sine g.lat)

-- the components of the direction of north at a place
unfoldable pub north_x : Grid → ℤ
north_x g = scaled (neg_ℤ (product (written_sine g.lat) (written_cosine g.lon)))

unfoldable pub north_y : Grid → ℤ
north_y g = scaled (neg_ℤ (product (written_sine g.lat) (written_sine g.lon)))

unfoldable pub north_z : Grid → ℤ
north_z g = scaled (written_cosine g.lat)

-- the components of the direction of east at a place, of which the third is zero
unfoldable pub east_x : Grid → ℤ
east_x g = scaled (neg_ℤ (written_sine g.lon))

unfoldable pub east_y : Grid → ℤ
east_y g = scaled (written_cosine g.lon)
