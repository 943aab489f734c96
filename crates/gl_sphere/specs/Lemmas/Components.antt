use Rattle.std.proofs.Common.{pos, arith}
use Rattle.gl_sphere.specs.Components.{written_x, written_y, written_z, north_x, north_y, north_z, east_x, east_y}
use Rattle.gl_sphere.specs.Lemmas.Bounds.{within-more, negative-within, written_sine-within, written_cosine-within, product-within, scaled-within}
use Rattle.gl_sphere.specs.Lemmas.Signs.{within_from_abs}
use Rattle.gl_sphere.specs.Range.{IsWithin}
use Rattle.gl_sphere.specs.declared.place.Grid.{Grid}
use Rattle.gl_sphere.specs.Sphere.{radius, quarter_turn, half_turn}

latitude-within : (g : Grid) → IsWithin half_turn g.lat
latitude-within g = within-more g.lat quarter_turn half_turn (omega arith) g.lat_in_range

-- the components of a place's point are within the radius
pub written_x-within : (g : Grid) → IsWithin radius (written_x g)
unfolding written_x
written_x-within g =
    scaled-within _ (product-within _ _ (written_cosine-within g.lat (latitude-within g))
    (written_cosine-within g.lon g.lon_in_range))

pub written_y-within : (g : Grid) → IsWithin radius (written_y g)
unfolding written_y
written_y-within g =
    scaled-within _ (product-within _ _ (written_cosine-within g.lat (latitude-within g))
    (written_sine-within g.lon g.lon_in_range))

pub written_z-within : (g : Grid) → IsWithin radius (written_z g)
unfolding written_z
written_z-within g = scaled-within _ (written_sine-within g.lat (latitude-within g))

-- and so are those of north and east
pub north_x-within : (g : Grid) → IsWithin radius (north_x g)
unfolding north_x
north_x-within g =
    scaled-within _ (negative-within _ _
    (product-within _ _ (written_sine-within g.lat (latitude-within g))
    (written_cosine-within g.lon g.lon_in_range)))

pub north_y-within : (g : Grid) → IsWithin radius (north_y g)
unfolding north_y
north_y-within g =
    scaled-within _ (negative-within _ _
    (product-within _ _ (written_sine-within g.lat (latitude-within g))
    (written_sine-within g.lon g.lon_in_range)))

pub north_z-within : (g : Grid) → IsWithin radius (north_z g)
unfolding north_z
north_z-within g = scaled-within _ (written_cosine-within g.lat (latitude-within g))

pub east_x-within : (g : Grid) → IsWithin radius (east_x g)
unfolding east_x
east_x-within g = scaled-within _ (negative-within _ _ (written_sine-within g.lon g.lon_in_range))

pub east_y-within : (g : Grid) → IsWithin radius (east_y g)
unfolding east_y
east_y-within g = scaled-within _ (written_cosine-within g.lon g.lon_in_range)

pub zero-within : IsWithin radius (pos 0)
zero-within = within_from_abs (pos 0) radius (omega arith)
