-- What is said of a flight's badge claims: three lines, each of which an LF, the byte 10, ends.
use Rattle.std.specs.Prelude.{◌≡◌, ◌↔◌, ℕ, Bool, IsTrue, if◌then◌else◌, List, [], ◌∷◌, ◌++◌, Option, Some, codes}
use Rattle.std.specs.List.{AllZip}
use Rattle.std.specs.Fmt.{decimal}
use Rattle.gl_text.specs.Numbers.{fixed}
use Rattle.gl_sphere.specs.declared.place.Vec3.{Vec3}
use Rattle.gl_igc.specs.declared.fix.Fix.{Fix}
use Rattle.gl_igc.specs.declared.recording.Recording.{Recording}
use Rattle.gl_goal.specs.Chain.{legs}
use Rattle.gl_goal.specs.Goal.{IsOptimum, Goal}
use Rattle.gl_badge.specs.declared.badge.Badge.{Badge}
use Rattle.gl_badge.specs.declared.badge.Badge.TheVariants as badge
use Rattle.gl_badge.specs.declared.shown.Course.{Course}
use Rattle.gl_badge.specs.declared.shown.Course.TheVariants.{Undeclared, Long, Missed, Lists}
use Rattle.gl_badge.specs.Claims.{AreBadgeClaims, distance_claim}
use Rattle.gl_badge.specs.Course.{IsCourse, IsFlown}
use Rattle.gl_badge.specs.Gain.{IsGreatestGain}
use Rattle.gl_badge.specs.Grades.{grade_of, grade_word}

-- the end of a line with a value: its unit and its grade
abbrev pub graded : Badge → ℕ → List ℕ
graded badge value = codes " m " ++ (grade_word (grade_of badge value) ++ 10 ∷ [])

-- a length in centimetres, as metres with two decimals
unfoldable pub distance_line : ℕ → List ℕ
distance_line length = codes "DISTANCE " ++ (fixed 2 length ++ graded badge.Distance length)

-- a gain of height in metres
unfoldable pub gain_line : ℕ → List ℕ
gain_line metres = codes "GAIN " ++ (decimal metres ++ graded badge.Gain metres)

-- the length of a declared course in centimetres, as metres with two decimals
unfoldable pub course_line : ℕ → List ℕ
course_line length = codes "GOAL " ++ (fixed 2 length ++ graded badge.DeclaredGoal length)

-- the line of a declared course of which a point was missed
abbrev pub missed_line : ℕ → List ℕ
missed_line number = codes "GOAL MISSED " ++ (decimal number ++ 10 ∷ [])

-- the line of a declared course of which each point was reached, by whether they were reached in
-- order
abbrev pub reached_line : List Vec3 → Bool → List ℕ
reached_line points flown =
    if flown then course_line (legs points) else codes "GOAL UNORDERED" ++ 10 ∷ []

-- the line of a declared course, by what is known of it and, where each point was reached, by
-- whether they were reached in order
abbrev pub goal_line : Course → Bool → List ℕ
goal_line Undeclared flown = codes "GOAL UNDECLARED" ++ 10 ∷ []
goal_line Long flown = codes "GOAL LONG" ++ 10 ∷ []
goal_line (Missed number) flown = missed_line number
goal_line (Lists lists points) flown = reached_line points.items flown

-- it is told whether a course of which each point was reached was flown in order
abbrev pub TellsFlown : List Fix → Course → Bool → Type 0
TellsFlown fixes Undeclared flown = Unit {0}
TellsFlown fixes Long flown = Unit {0}
TellsFlown fixes (Missed number) flown = Unit {0}
TellsFlown fixes (Lists lists points) flown = IsTrue flown ↔ IsFlown fixes points.items

-- the three lines: the free distance, the gain of height and the declared course, each with its
-- grade
pub record AreBadgeLines (recording : Recording) (text : List ℕ) : Type 0 where
  pub distance : ℕ
  pub farthest : IsOptimum (distance_claim recording.fixes).1 (Some distance)
  pub gain : ℕ
  pub highest : IsGreatestGain recording.fixes gain
  pub course : Course
  pub is : IsCourse recording course
  pub flown : Bool
  pub tells : TellsFlown recording.fixes course flown
  pub lines : text ≡ distance_line distance ++ (gain_line gain ++ goal_line course flown)

-- the totals are the optima of the badge claims, in their order
pub record AreBadgeOptima (recording : Recording) (totals : List (Option ℕ)) : Type 0 where
  pub claims : List (Badge × Goal)
  pub are : AreBadgeClaims recording claims
  pub optima : AllZip (λ claim total. IsOptimum claim.1 total) claims totals
