-- What is told of the points of a day, part by part.
use Rattle.std.proofs.Common.{◌≡◌, ◌∙◌, ap, append_assoc, refl, subst, sym, ℕ, Bool, false, not, List, [], ◌∷◌, ◌++◌, Option, length}
use Rattle.std.specs.Prelude.{◌==◌, ◌||◌, MatchBool}
use Rattle.gl_airspace.specs.declared.volume.Airspace.{Airspace}
use Rattle.gl_day.specs.Day.{performances_of, row_of}
use Rattle.gl_day.specs.declared.flight.Flight.{Flight}
use Rattle.gl_desk.specs.Desk.{FilesByName}
use Rattle.gl_judge.specs.Choices.{numbers_before}
use Rattle.gl_points.specs.Summary.{IsSummaryOf}
use Rattle.gl_points.specs.declared.performance.Performance.{Performance}
use Rattle.gl_points.specs.declared.summary.Summary.{Summary}
use Rattle.gl_task.specs.declared.task.Entrant.{Entrant}
use Rattle.gl_task.specs.declared.task.Task.{Task}
use Rattle.gl_why.specs.Days.{AreScoredTold}
use Rattle.gl_why.specs.Entrants.{IsToldIfWanted}
use Rattle.gl_why.specs.Facts.{AddsFacts, AreFlown, AreFound}
use Rattle.gl_why.specs.Results.{AreFiguresTold, ArePointsTold, AreResultsTold, IsEarning, IsEarningTold, IsMost, IsResultAt}
use Rattle.gl_why.specs.declared.fact.Fact.{Fact}
use Rattle.gl_why.specs.declared.fact.Earning.{Earning}
use Rattle.gl_why.specs.declared.fact.Fact.TheVariants.{Day, Earned, Most, Scored}
use Rattle.gl_why.specs.declared.fact.Most as code_most
use Rattle.gl_why.proofs.FoundLemmas.{two_added}

-- the figures, and the result of each
pub results_told : (choice : Option (List ℕ)) (entrants : List Entrant) (flights : List Flight) (day : Summary) (before mid now : List Fact) → IsSummaryOf (performances_of flights) day
    → AddsFacts (AreFiguresTold day) before mid → AddsFacts (AreFound (IsResultAt choice entrants flights day) (numbers_before 0 (length flights))) mid now
    → AddsFacts (AreResultsTold choice entrants flights) before now
results_told choice entrants flights day before mid now figures first each = (
  first.0 ++ each.0,
  record { day = day; figures = figures; first = first.0; first_are = first.1; each = each.0; each_are = each.1; told = refl },
  two_added (AreFiguresTold day) (AreFound (IsResultAt choice entrants flights day) (numbers_before 0 (length flights))) before mid now first each,
)

-- the points before they are rounded, and the line of the sheet
pub points_told : (day : Summary) (entrant : Entrant) (flight : Flight) (before mid now : List Fact) → AddsFacts (IsEarningTold day entrant.number flight.performance) before mid
    → now ≡ mid ++ Scored entrant.number (row_of day flight) ∷ [] → AddsFacts (ArePointsTold day entrant flight) before now
points_told day entrant flight before mid now earned scored = (
  earned.0 ++ Scored entrant.number (row_of day flight) ∷ [],
  record { earned = earned.0; earned_is = earned.1; told = refl },
  scored ∙ ap (λ (t : List Fact). t ++ Scored entrant.number (row_of day flight) ∷ []) earned.2 ∙ append_assoc before earned.0 (Scored entrant.number (row_of day flight) ∷ []),
)

-- the flights of all entrants, and the points that they give
pub scored_told : (folder : Option FilesByName) (names : List (List ℕ)) (choice : Option (List ℕ)) (task : Task) (air : Airspace) (entrants : List Entrant) (flights given : List Flight)
    (before mid now : List Fact) → entrants ≡ task.entrants → given ≡ flights → AddsFacts (AreFlown (IsToldIfWanted choice folder names task air) task.entrants flights) before mid
    → AddsFacts (AreResultsTold choice entrants given) mid now → AddsFacts (AreScoredTold folder names choice task air) before now
scored_told folder names choice task air entrants flights given before mid now entrants_are flights_are flown results =
    let here = subst (λ (fs : List Flight). AddsFacts (AreResultsTold choice task.entrants fs) mid now) flights_are
    (subst (λ (es : List Entrant). AddsFacts (AreResultsTold choice es given) mid now) entrants_are results) in (
      flown.0 ++ here.0,
      record { flights = flights; flown = flown.0; flown_are = flown.1; results = here.0; results_are = here.1; told = refl },
      two_added (AreFlown (IsToldIfWanted choice folder names task air) task.entrants flights) (AreResultsTold choice task.entrants flights) before mid now flown here,
    )

-- the figures of a day on which somebody flew far
pub figures_told : (day : Summary) (most : code_most.Most) (before mid now : List Fact) → (day.far == 0) ≡ false → IsMost day most → mid ≡ before ++ Day day ∷ [] → now ≡ mid ++ Most most ∷ []
    → AddsFacts (AreFiguresTold day) before now
figures_told day most before mid now far is one two =
    let facts : List Fact = Day day ∷ Most most ∷ [] in (
      facts,
      subst (λ (b : Bool). MatchBool b (facts ≡ Day day ∷ []) ((m : code_most.Most) × IsMost day m × (facts ≡ Day day ∷ Most m ∷ []))) (sym far) (most, is, refl),
      two ∙ ap (λ (t : List Fact). t ++ Most most ∷ []) one ∙ append_assoc before (Day day ∷ []) (Most most ∷ []),
    )

-- what one who was launched has of its points
pub earning_told : (day : Summary) (number : List ℕ) (performance : Performance) (earning : Earning) (before now : List Fact) → (not performance.launched || (day.far == 0)) ≡ false
    → IsEarning day performance earning → now ≡ before ++ Earned number earning ∷ [] → AddsFacts (IsEarningTold day number performance) before now
earning_told day number performance earning before now counts is told =
    let facts : List Fact = Earned number earning ∷ [] in (
      facts,
      subst (λ (b : Bool). MatchBool b (facts ≡ []) ((e : Earning) × IsEarning day performance e × (facts ≡ Earned number e ∷ []))) (sym counts) (earning, is, refl),
      told,
    )
