-- What is told of the visits of the zones, and of the first point of the course that isn't reached.
use Rattle.std.specs.Prelude.{◌≡◌, ℕ, ◌≤◌, ◌<◌, List, [], ◌∷◌, take, slice_get, Some}
use Rattle.gl_goal.specs.Free.{numbers_from}
use Rattle.gl_igc.specs.declared.fix.Fix.{Fix}
use Rattle.gl_judge.specs.Choices.{course_point}
use Rattle.gl_judge.specs.Greatest.{IsLeast}
use Rattle.gl_judge.specs.JudgedFixes.{IsInRange}
use Rattle.gl_judge.specs.Visits.{HasVisit}
use Rattle.gl_judge.specs.declared.stretch.Stretch.{Stretch}
use Rattle.gl_sphere.specs.Distance.{distance}
use Rattle.gl_sphere.specs.declared.place.Vec3.{Vec3}
use Rattle.gl_task.specs.declared.task.Task.{Task}
use Rattle.gl_zone.specs.declared.zone.Zone.{Zone}
use Rattle.gl_why.specs.Crossings.{IsSpot}
use Rattle.gl_why.specs.Facts.{AreFound}
use Rattle.gl_why.specs.declared.fact.Fact as code
use Rattle.gl_why.specs.declared.fact.Fact.TheVariants as fact
use Rattle.gl_why.specs.declared.fact.Miss.{Miss}
use Rattle.gl_why.specs.declared.fact.Visit.{Visit}

-- The zone with a number is visited so, from a fix on: with the first fix with which a visit of the
-- zones up to it ends.
pub record IsVisited (fixes : List Fix) (judged : Stretch) (zones : List Zone) (from number : ℕ)
    (visit : Visit) : Type 0 where
  pub zone_is : visit.zone ≡ number
  pub spot : IsSpot fixes visit.at
  pub first : IsLeast (HasVisit fixes judged (take number zones) from) visit.at.number

-- that is told of a zone
pub record IsVisitTold (fixes : List Fix) (judged : Stretch) (zones : List Zone) (from number : ℕ)
    (facts : List code.Fact) : Type 0 where
  pub visit : Visit
  pub is : IsVisited fixes judged zones from number visit
  pub told : facts ≡ fact.Visited visit ∷ []

-- of so many zones from the first one on
abbrev pub AreVisitsTold : List Fix → Stretch → List Zone → ℕ → ℕ → List code.Fact → Type 0
AreVisitsTold fixes judged zones from count facts =
    AreFound (IsVisitTold fixes judged zones from) (numbers_from 1 count) facts

-- Of the judged fixes from one on, this one is the nearest to a point, and the first that is as
-- near.
pub record IsNearest (fixes : List Fix) (judged : Stretch) (from : ℕ) (point : Vec3) (miss : Miss)
    : Type 0 where
  pub spot : IsSpot fixes miss.at
  pub after : from ≤ miss.at.number
  pub is_judged : IsInRange judged miss.at.number
  pub distance_is : miss.distance ≡ distance miss.at.fix.at point
  pub least : (i : ℕ) (fix : Fix) → from ≤ i → IsInRange judged i → slice_get fixes i ≡ Some fix
      → miss.distance ≤ distance fix.at point
  pub first : (i : ℕ) (fix : Fix) → from ≤ i → i < miss.at.number → slice_get fixes i ≡ Some fix
      → miss.distance < distance fix.at point

-- a point of the course isn't reached, and this is told of it
pub record IsMissTold (task : Task) (fixes : List Fix) (judged : Stretch) (from number : ℕ)
    (facts : List code.Fact) : Type 0 where
  pub miss : Miss
  pub number_is : miss.point ≡ number
  pub nearest : IsNearest fixes judged from (course_point task number) miss
  pub told : facts ≡ fact.Missed miss ∷ []
