-- How far apart, and how near, two points can be that lie in two boxes.
use Rattle.std.specs.Prelude.{◌≡◌, ℕ, ◌+◌, ◌*◌, ◌≤◌, max, ℤ, pos, ◌-ℤ◌, unsigned_abs}
use Rattle.std.specs.Int.{int_max}
use Rattle.gl_sphere.specs.declared.place.Vec3.{Vec3}
use Rattle.gl_sphere.specs.Distance.{squared_chord}
use Rattle.gl_goal.specs.Box.{Box, IsInside}

-- the greatest difference of two values, one between the first ends and one between the second
unfoldable pub reach : ℤ × ℤ → ℤ × ℤ → ℕ
reach one other = max (unsigned_abs (one.1 -ℤ other.0)) (unsigned_abs (other.1 -ℤ one.0))

-- the least difference, 0 where the two overlap
unfoldable pub gap : ℤ × ℤ → ℤ × ℤ → ℕ
gap one other = unsigned_abs (int_max (int_max (other.0 -ℤ one.1) (one.0 -ℤ other.1)) (pos 0))

-- the square of a number
abbrev pub squared : ℕ → ℕ
squared n = n * n

-- the greatest squared chord of two points, one in each box
unfoldable pub greatest_chord : Box → Box → ℕ
greatest_chord one other =
    squared (reach one.x other.x) + squared (reach one.y other.y) + squared (reach one.z other.z)

-- the least squared chord
unfoldable pub least_chord : Box → Box → ℕ
least_chord one other =
    squared (gap one.x other.x) + squared (gap one.y other.y) + squared (gap one.z other.z)

-- two points, one in each box, have this squared chord
pub record IsChord (one other : Box) (chord : ℕ) : Type 0 where
  pub from : Vec3
  pub to : Vec3
  pub from_inside : IsInside one from
  pub to_inside : IsInside other to
  pub is : squared_chord from to ≡ chord

-- two points have this squared chord, and no two have a greater one
pub record IsGreatestChord (one other : Box) (chord : ℕ) : Type 0 where
  pub reached : IsChord one other chord
  pub greatest : (a b : Vec3) → IsInside one a → IsInside other b → squared_chord a b ≤ chord

-- two points have this squared chord, and no two have a lesser one
pub record IsLeastChord (one other : Box) (chord : ℕ) : Type 0 where
  pub reached : IsChord one other chord
  pub least : (a b : Vec3) → IsInside one a → IsInside other b → chord ≤ squared_chord a b
