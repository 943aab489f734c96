-- The declared course of a flight, and which fixes come near its points.
use Rattle.std.specs.Prelude.{◌≡◌, ℕ, ◌-◌, ◌<◌, ◌≤◌, Bool, false, nat_le, List, [], length, map, take, drop, slice_get, Option, None, Some, IsSomeAnd, IsTrue, All}
use Rattle.std.specs.List.{AllZip, filter}
use Rattle.gl_sphere.specs.declared.place.Grid.{Grid}
use Rattle.gl_sphere.specs.declared.place.Vec3.{Vec3}
use Rattle.gl_sphere.specs.Place.{written_vector}
use Rattle.gl_igc.specs.declared.fix.Fix.{Fix}
use Rattle.gl_igc.specs.declared.recording.Declared.{Declared}
use Rattle.gl_igc.specs.declared.recording.Recording.{Recording}
use Rattle.gl_sphere.specs.Distance.{distance}
use Rattle.gl_goal.specs.Free.{numbers_from}
use Rattle.gl_goal.specs.Goal.{IsInTimeOrder}
use Rattle.gl_badge.specs.declared.shown.Course.{Course}
use Rattle.gl_badge.specs.declared.shown.Course.TheVariants.{Undeclared, Long, Missed, Lists}

-- the points of a declared course: its start, turn points and finish, which stand between the
-- take-off and the landing
abbrev pub course_points : List Grid → List Vec3
course_points places = map written_vector (take (length places - 2) (drop 1 places))

-- whether a fix, if there is one, is at most 500 m from a point
abbrev pub is_near : Vec3 → Option Fix → Bool
is_near point None = false
is_near point (Some fix) = nat_le (distance fix.at point) 50_000

-- the numbers of the fixes near a point
abbrev pub numbers_near : List Fix → Vec3 → List ℕ
numbers_near fixes point =
    filter (λ i. is_near point (slice_get fixes i)) (numbers_from 0 (length fixes))

-- fixes in time order are near some points, one after the other
pub record IsFlown (fixes : List Fix) (points : List Vec3) : Type 0 where
  pub numbers : List ℕ
  pub in_order : IsInTimeOrder numbers
  pub near : AllZip (λ point i. IsTrue (is_near point (slice_get fixes i))) points numbers

-- some fix is near a point
abbrev pub IsReached : List Fix → Vec3 → Type 0
IsReached fixes point = 0 < length (numbers_near fixes point)

-- the point with this number, from 1 on, is the first that no fix is near
pub record IsMissed (fixes : List Fix) (points : List Vec3) (number : ℕ) : Type 0 where
  pub from_one : 1 ≤ number
  pub missed : IsSomeAnd (slice_get points (number - 1)) (λ point. numbers_near fixes point ≡ [])
  pub first : All (IsReached fixes) (take (number - 1) points)

-- each point is near some fix, and the lists have the numbers of the fixes near it
pub record AreNear (fixes : List Fix) (points : List Vec3) (lists : List (List ℕ)) : Type 0 where
  pub reached : All (IsReached fixes) points
  pub near : lists ≡ map (numbers_near fixes) points

-- what is known of a course of at most ten points
abbrev pub IsCourseThrough : List Fix → List Vec3 → Course → Type 0
IsCourseThrough fixes points Undeclared = ⊥
IsCourseThrough fixes points Long = ⊥
IsCourseThrough fixes points (Missed number) = IsMissed fixes points number
IsCourseThrough fixes points (Lists lists through) =
    AreNear fixes points (map (λ list. list.items) lists.items) × (through.items ≡ points)

-- What is known of the declared course: that there is none; or that it has more than ten points; or
-- the first point that was missed; or, where no point was, the fixes near each.
abbrev pub IsCourseOf : List Fix → Option Declared → Course → Type 0
IsCourseOf fixes None course = course ≡ Undeclared
IsCourseOf fixes (Some declared) Undeclared = ⊥
IsCourseOf fixes (Some declared) Long = 10 < length (course_points declared.points)
IsCourseOf fixes (Some declared) (Missed number) =
    (length (course_points declared.points) ≤ 10)
    × IsCourseThrough fixes (course_points declared.points) (Missed number)
IsCourseOf fixes (Some declared) (Lists lists points) =
    (length (course_points declared.points) ≤ 10)
    × IsCourseThrough fixes (course_points declared.points) (Lists lists points)

-- what is known of the declared course of a recording
abbrev pub IsCourse : Recording → Course → Type 0
IsCourse recording course = IsCourseOf recording.fixes recording.declared course
