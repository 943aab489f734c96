-- What is told of the points of a day: its figures, and what each who is asked for has of them.
use Rattle.std.specs.Prelude.{◌≡◌, ℕ, ◌==◌, not, ◌||◌, ◌++◌, if◌then◌else◌, List, [], ◌∷◌, length, slice_get, Option, Some, MatchBool}
use Rattle.gl_day.specs.Day.{performances_of, row_of}
use Rattle.gl_day.specs.declared.flight.Flight.{Flight}
use Rattle.gl_judge.specs.Choices.{numbers_before}
use Rattle.gl_points.specs.Fraction.{IsSame}
use Rattle.gl_points.specs.Points.{completion_factor, day_factor, exact_points, most_for_distance, most_for_speed, share_of_distance, share_of_speed}
use Rattle.gl_points.specs.Summary.{IsSummaryOf}
use Rattle.gl_points.specs.Worth.{worth}
use Rattle.gl_points.specs.declared.performance.Performance.{Performance}
use Rattle.gl_points.specs.declared.summary.Summary.{Summary}
use Rattle.gl_task.specs.declared.task.Entrant.{Entrant}
use Rattle.gl_why.specs.Facts.{AreFound}
use Rattle.gl_why.specs.Wanted.{is_wanted}
use Rattle.gl_why.specs.declared.fact.Earning.{Earning}
use Rattle.gl_why.specs.declared.fact.Fact as code
use Rattle.gl_why.specs.declared.fact.Fact.TheVariants as fact
use Rattle.gl_why.specs.declared.fact.Most as code_most

-- how much a day counts, and its most points for speed and for distance
pub record IsMost (day : Summary) (most : code_most.Most) : Type 0 where
  pub far_is : worth most.by_far ≡ day_factor day
  pub fast_is : worth most.by_fast ≡ completion_factor day
  pub speed_is : worth most.for_speed ≡ most_for_speed day
  pub distance_is : worth most.for_distance ≡ most_for_distance day

-- what is told of the day: its figures and, if somebody flew far, its most points
abbrev pub AreFiguresTold : Summary → List code.Fact → Type 0
AreFiguresTold day facts =
    MatchBool (day.far == 0) (facts ≡ fact.Day day ∷ [])
    ((most : code_most.Most) × IsMost day most × (facts ≡ fact.Day day ∷ fact.Most most ∷ []))

-- what a flight has of the points for speed or distance, and its points before they are rounded
pub record IsEarning (day : Summary) (performance : Performance) (earning : Earning)
    : Type 0 where
  pub share_is : IsSame (worth earning.share)
      (if performance.finished
      then share_of_speed day performance
      else share_of_distance day performance)
  pub exact_is : IsSame (worth earning.exact) (exact_points day performance)

-- that is told of one who was launched, if somebody flew far
abbrev pub IsEarningTold : Summary → List ℕ → Performance → List code.Fact → Type 0
IsEarningTold day number performance facts =
    MatchBool (not performance.launched || (day.far == 0)) (facts ≡ [])
    ((earning : Earning) × IsEarning day performance earning
    × (facts ≡ fact.Earned number earning ∷ []))

-- what is told of the points of an entrant, and then the line of the sheet
pub record ArePointsTold (day : Summary) (entrant : Entrant) (flight : Flight)
    (facts : List code.Fact) : Type 0 where
  pub earned : List code.Fact
  pub earned_is : IsEarningTold day entrant.number flight.performance earned
  pub told : facts ≡ earned ++ fact.Scored entrant.number (row_of day flight) ∷ []

-- of one who isn't asked for nothing is told
abbrev pub IsResultTold : Option (List ℕ) → Summary → Entrant → Flight → List code.Fact → Type 0
IsResultTold choice day entrant flight facts =
    MatchBool (is_wanted choice entrant) (ArePointsTold day entrant flight facts) (facts ≡ [])

-- so at a place of the lists of entrants and of their flights
abbrev pub IsResultAt : Option (List ℕ) → List Entrant → List Flight → Summary → ℕ
    → List code.Fact → Type 0
IsResultAt choice entrants flights day i facts =
    (entrant : Entrant) × (flight : Flight) × (slice_get entrants i ≡ Some entrant)
    × (slice_get flights i ≡ Some flight) × IsResultTold choice day entrant flight facts

-- The figures of the day are those of all flights, and each result is the row of the sheet that
-- they give.
pub record AreResultsTold (choice : Option (List ℕ)) (entrants : List Entrant)
    (flights : List Flight) (facts : List code.Fact) : Type 0 where
  pub day : Summary
  pub figures : IsSummaryOf (performances_of flights) day
  pub first : List code.Fact
  pub first_are : AreFiguresTold day first
  pub each : List code.Fact
  pub each_are : AreFound (IsResultAt choice entrants flights day)
      (numbers_before 0 (length flights)) each
  pub told : facts ≡ first ++ each
