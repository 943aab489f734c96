-- What is told of a flight, by its recording and the task alone.
use Rattle.std.specs.Prelude.{◌≡◌, ℕ, ◌+◌, ◌++◌, List, [], ◌∷◌, take, ℤ, pos, ◌+ℤ◌}
use Rattle.gl_airspace.specs.declared.volume.Airspace.{Airspace}
use Rattle.gl_igc.specs.declared.recording.Recording.{Recording}
use Rattle.gl_judge.specs.Greatest.{IsGreatest, IsLeast}
use Rattle.gl_judge.specs.JudgedFixes.{IsJudgedRange, first_of_day}
use Rattle.gl_judge.specs.Outcome.{IsOutcome}
use Rattle.gl_judge.specs.Visits.{HasVisit, VisitsFirst}
use Rattle.gl_judge.specs.declared.outcome.Judged.{Judged}
use Rattle.gl_judge.specs.declared.outcome.Judged.TheVariants as outcome
use Rattle.gl_judge.specs.declared.outcome.Window.{Window}
use Rattle.gl_judge.specs.declared.stretch.Stretch.{Stretch}
use Rattle.gl_task.specs.declared.task.Task.{Task}
use Rattle.gl_why.specs.Crossings.{AreCrossingsTold, IsSpot}
use Rattle.gl_why.specs.Cuts.{IsCutTold}
use Rattle.gl_why.specs.Visits.{AreVisitsTold, IsMissTold}
use Rattle.gl_why.specs.declared.fact.Fact as code
use Rattle.gl_why.specs.declared.fact.Fact.TheVariants as fact
use Rattle.gl_why.specs.declared.fact.Passing.{Passing}

-- a start or a finish is with this fix, at this time
pub record IsPassing (recording : Recording) (number : ℕ) (time : ℤ) (passing : Passing)
    : Type 0 where
  pub number_is : passing.at.number ≡ number
  pub spot : IsSpot recording.fixes passing.at
  pub time_is : passing.second ≡ time

-- the start of the window, and the visits from it on: so many zones, and no more, have a visit, and
-- the visit of these ends first with this fix
pub record AreWindowTold (task : Task) (recording : Recording) (judged : Stretch) (window : Window)
    (count last : ℕ) (facts : List code.Fact) : Type 0 where
  pub start : Passing
  pub start_is : IsPassing recording window.first window.start start
  pub most : IsGreatest (VisitsFirst recording.fixes judged task.zones window.first) count
  pub ends : IsLeast (HasVisit recording.fixes judged (take count task.zones) window.first) last
  pub visits : List code.Fact
  pub visits_are :
      AreVisitsTold recording.fixes judged task.zones window.first count visits
  pub told : facts ≡ fact.Started start ∷ visits

-- what is told of a flight that finished: its window, and the finish, so many seconds after the
-- start
pub record AreFinishedTold (task : Task) (recording : Recording) (judged : Stretch)
    (window : Window) (seconds : ℕ) (facts : List code.Fact) : Type 0 where
  pub count : ℕ
  pub last : ℕ
  pub before : List code.Fact
  pub before_are : AreWindowTold task recording judged window count last before
  pub finish : Passing
  pub finish_is : IsPassing recording window.last (window.start +ℤ pos seconds) finish
  pub told : facts ≡ before ++ fact.Finished finish ∷ []

-- what is told of a flight that landed out: its window, and the point of the course behind those
-- that it reached
pub record AreOutlandedTold (task : Task) (recording : Recording) (judged : Stretch)
    (window : Window) (facts : List code.Fact) : Type 0 where
  pub count : ℕ
  pub last : ℕ
  pub before : List code.Fact
  pub before_are : AreWindowTold task recording judged window count last before
  pub miss : List code.Fact
  pub miss_is : IsMissTold task recording.fixes judged last (count + 1) miss
  pub told : facts ≡ before ++ miss

-- what is told of the course of a flight with this outcome
abbrev pub IsCourseTold : Task → Recording → Stretch → Judged → List code.Fact → Type 0
IsCourseTold task recording judged (outcome.Finished window seconds) facts =
    AreFinishedTold task recording judged window seconds facts
IsCourseTold task recording judged (outcome.Outlanded window zones) facts =
    AreOutlandedTold task recording judged window facts
IsCourseTold task recording judged outcome.NoStart facts = facts ≡ fact.NoStart ∷ []

-- What is told of a flight: the crossings of its start line, its course, and where airspace cut it,
-- each by the judged fixes and the outcome on which its score stands.
pub record AreFlightTold (task : Task) (air : Airspace) (recording : Recording) (outcome : Judged)
    (facts : List code.Fact) : Type 0 where
  pub judged : Stretch
  pub range : IsJudgedRange task.closes air.volumes recording.fixes judged
  pub begins : judged.from ≡ first_of_day recording.fixes
  pub is : IsOutcome task recording judged outcome
  pub crossings : List code.Fact
  pub crossings_are : AreCrossingsTold task.start recording judged crossings
  pub course : List code.Fact
  pub course_is : IsCourseTold task recording judged outcome course
  pub cut : List code.Fact
  pub cut_is : IsCutTold task.closes air.volumes recording.fixes judged cut
  pub told : facts ≡ crossings ++ course ++ cut
