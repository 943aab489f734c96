-- When a flight crosses a line forwards.
use Rattle.std.specs.Prelude.{◌≡◌, ℕ, ◌+◌, ◌/◌, ◌≤◌, ◌==◌, if◌then◌else◌, ℤ, pos, ◌+ℤ◌, ◌-ℤ◌, ◌*ℤ◌, ◌<ℤ◌, ◌≤ℤ◌, int_div, unsigned_abs}
use Rattle.gl_sphere.specs.declared.place.Vec3.{Vec3}
use Rattle.gl_sphere.specs.Distance.{squared_gap, written_distance}
use Rattle.gl_igc.specs.declared.fix.Fix.{Fix}
use Rattle.gl_zone.specs.declared.line.Line.{Line}
use Rattle.gl_zone.specs.Side.{side_of}

-- how far a point lies before or behind a line, in 2^30
unfoldable pub depth_of : Line → Vec3 → ℕ
depth_of line x = unsigned_abs (side_of line x) / 1_073_741_824

-- what stands a of a + b of the way from p to q, the quotient towards zero; q where a + b is 0
unfoldable pub on_the_way : ℕ → ℕ → ℤ → ℤ → ℤ
on_the_way a b p q = if a + b == 0 then q else p +ℤ int_div ((q -ℤ p) *ℤ pos a) (pos (a + b))

-- a number at the crossing of the line, which is p at the fix x and q at the fix y
abbrev pub at_crossing : Line → Fix → Fix → ℤ → ℤ → ℤ
at_crossing line x y p q = on_the_way (depth_of line x.at) (depth_of line y.at) p q

-- the distance of the crossing point to the centre of the line
unfoldable pub distance_at_crossing : Line → Fix → Fix → ℕ
distance_at_crossing line x y =
    written_distance
    (squared_gap (at_crossing line x y x.at.x y.at.x) line.centre.x
    + squared_gap (at_crossing line x y x.at.y y.at.y) line.centre.y
    + squared_gap (at_crossing line x y x.at.z y.at.z) line.centre.z)

-- From the fix x to the fix y the line is crossed forwards, within its half width, at time t.
pub record CrossesForwards (line : Line) (x y : Fix) (t : ℤ) : Type 0 where
  pub before : side_of line x.at <ℤ pos 0
  pub behind : pos 0 ≤ℤ side_of line y.at
  pub within : distance_at_crossing line x y ≤ line.half
  pub time : t ≡ at_crossing line x y x.second y.second
