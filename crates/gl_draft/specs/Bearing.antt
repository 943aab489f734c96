-- The direction from one place to another, and those half way between two, in 1/100,000 minute
-- clockwise from north.
use Rattle.std.specs.Prelude.{◌≡◌, ℕ, ◌+◌, ◌-◌, ◌/◌, ◌%◌, ◌<◌, nat_lt, true, false, if◌then◌else◌, ℤ, pos, ◌-ℤ◌, ◌&&◌, Bool, Option, None, Some, unsigned_abs}
use Rattle.gl_sphere.specs.Place.{written_vector, written_north, written_east}
use Rattle.gl_sphere.specs.Sine.{written_sine, written_cosine}
use Rattle.gl_sphere.specs.Sphere.{half_turn}
use Rattle.gl_sphere.specs.declared.place.Grid.{Grid}
use Rattle.gl_zone.specs.Product.{scalar_product}
use Rattle.gl_zone.specs.Zones.{is_clockwise}

-- a whole turn
abbrev pub whole_turn : ℕ
whole_turn = 2_160_000_000

-- the direction from a place to another, by its parts towards north and towards east
abbrev pub direction_to : Grid → Grid → ℤ × ℤ
direction_to from to = (
  scalar_product (written_north from) (written_vector to),
  scalar_product (written_east from) (written_vector to),
)

-- an angle clockwise from north as one from -180 to 180 degrees
unfoldable pub signed_angle : ℕ → ℤ
signed_angle n = if nat_lt half_turn n then pos n -ℤ pos whole_turn else pos n

-- the direction at an angle, by its parts towards north and towards east
abbrev pub radial_at : ℕ → ℤ × ℤ
radial_at n = (written_cosine (signed_angle n), written_sine (signed_angle n))

-- the part towards north of a point a kilometre north, 100,000 centimetres by the radius
abbrev pub kilometre : ℕ
kilometre = 63_710_000_000_000

-- a point lies less than a kilometre away in both parts, or so near to the far side of the earth,
-- where whole centimetres could turn its direction
abbrev pub is_too_near : ℤ × ℤ → Bool
is_too_near direction =
    nat_lt (unsigned_abs direction.0) kilometre && nat_lt (unsigned_abs direction.1) kilometre

-- A direction lies on the radial at an angle, or clockwise of it and before the next radial.
pub record IsAtAngle (direction : ℤ × ℤ) (n : ℕ) : Type 0 where
  pub below : n < whole_turn
  pub reached : is_clockwise (radial_at n) direction ≡ true
  pub next : is_clockwise (radial_at (n + 1)) direction ≡ false

-- the other place lies at an angle from the one
pub record IsBearing (from to : Grid) (n : ℕ) : Type 0 where
  pub apart : is_too_near (direction_to from to) ≡ false
  pub at : IsAtAngle (direction_to from to) n

-- the other place has no direction
abbrev pub HasNoBearing : Grid → Grid → Type 0
HasNoBearing from to = is_too_near (direction_to from to) ≡ true

-- the angle from one direction clockwise to another
abbrev pub angle_between : ℕ → ℕ → ℕ
angle_between a b = (b + whole_turn - a) % whole_turn

-- half way from one direction clockwise to another
abbrev pub half_way : ℕ → ℕ → ℕ
half_way a b = (a + angle_between a b / 2) % whole_turn

abbrev pub turned_about : ℕ → ℕ
turned_about a = (a + half_turn) % whole_turn

-- two directions are opposite, to less than a hundredth of a degree
abbrev pub are_opposite : ℕ → ℕ → Bool
are_opposite a b =
    nat_lt ((angle_between a b - half_turn) + (half_turn - angle_between a b)) 60_000

-- half way between two directions, in the greater of the two angles between them; none where they
-- are opposite
unfoldable pub outside_of : ℕ → ℕ → Option ℕ
outside_of a b =
    if are_opposite a b then None
    else (if nat_lt half_turn (angle_between a b) then Some (half_way a b)
    else Some (turned_about (half_way a b)))

-- the whole thousandths of a degree nearest to a direction, below a whole turn
abbrev pub thousandths_of : ℕ → ℕ
thousandths_of n = (n + 3_000) / 6_000 % 360_000
