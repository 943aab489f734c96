use Rattle.std.specs.Prelude.{ℕ, zero, suc, ◌+◌, ◌*◌, ◌/◌, nat_le, if◌then◌else◌, ℤ, ◌-ℤ◌, unsigned_abs}
use Rattle.gl_sphere.specs.declared.place.Vec3.{Vec3}
use Rattle.gl_sphere.specs.Sphere.{radius}

-- the square of the difference of two components
unfoldable pub squared_gap : ℤ → ℤ → ℕ
squared_gap a b = unsigned_abs (a -ℤ b) * unsigned_abs (a -ℤ b)

-- the squared length of the chord between two points
unfoldable pub squared_chord : Vec3 → Vec3 → ℕ
squared_chord a b = squared_gap a.x b.x + squared_gap a.y b.y + squared_gap a.z b.z

-- the square root rounded down, which grows by one at each square
unfoldable pub floor_root : ℕ → ℕ
floor_root zero = 0
floor_root (suc n) =
    let r = floor_root n in if nat_le ((r + 1) * (r + 1)) (suc n) then r + 1 else r

-- the second term of 2R·arcsin(c / 2R) for a chord c
unfoldable pub second_term_of : ℕ → ℕ
second_term_of c = c * c * c / (24 * (radius * radius))

-- the third term
unfoldable pub third_term_of : ℕ → ℕ
third_term_of c = 9 * second_term_of c * (c * c) / (80 * (radius * radius))

-- the fourth term
unfoldable pub fourth_term_of : ℕ → ℕ
fourth_term_of c = 25 * third_term_of c * (c * c) / (168 * (radius * radius))

-- the first four terms of 2R·arcsin(c / 2R), the arc over a chord c
unfoldable pub arc_over : ℕ → ℕ
arc_over c = c + second_term_of c + third_term_of c + fourth_term_of c

-- the distance along the surface of two points with the squared chord q
unfoldable pub written_distance : ℕ → ℕ
written_distance q = arc_over (floor_root q)

-- the distance along the surface of two points
abbrev pub distance : Vec3 → Vec3 → ℕ
distance a b = written_distance (squared_chord a b)
