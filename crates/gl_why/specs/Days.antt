-- What is told of the entrants of a day.
use Rattle.std.specs.Prelude.{◌≡◌, ◌≢◌, ℕ, ◌++◌, List, [], ◌∷◌, Option, None, Some, Result, Ok, Err, MatchBool}
use Rattle.std.specs.List.{list_any}
use Rattle.gl_airspace.specs.Airspace.{IsAirspace}
use Rattle.gl_airspace.specs.Parts.{Tells}
use Rattle.gl_airspace.specs.Volumes.{readings_of, refusal_of}
use Rattle.gl_airspace.specs.declared.error.AirError.{AirError}
use Rattle.gl_airspace.specs.declared.error.AirError.TheVariants as air_error
use Rattle.gl_airspace.specs.declared.volume.Airspace.{Airspace}
use Rattle.gl_desk.specs.Desk.{FilesByName, ListsNames}
use Rattle.gl_why.specs.Sights.{IsSightIn}
use Rattle.gl_why.specs.declared.sight.Sight as code_sight
use Rattle.gl_why.specs.declared.sight.Sight.TheVariants as sight
use Rattle.gl_task.specs.declared.task.Task.{Task}
use Rattle.gl_task_file.specs.Reading.{IsReadFrom, IsRefusalOf}
use Rattle.gl_task_file.specs.declared.error.TaskError.{TaskError}
use Rattle.gl_task_file.specs.declared.error.TaskError.TheVariants as task_error
use Rattle.gl_day.specs.declared.flight.Flight.{Flight}
use Rattle.gl_why.specs.Entrants.{IsToldIfWanted}
use Rattle.gl_why.specs.Facts.{AreFlown, refused}
use Rattle.gl_why.specs.Results.{AreResultsTold}
use Rattle.gl_why.specs.Wanted.{is_wanted}
use Rattle.gl_why.specs.declared.fact.Fact as code
use Rattle.gl_why.specs.declared.fact.Obstacle.TheVariants as obstacle

-- the airspace of a text, or that the file doesn't read
abbrev pub IsAirText : List ℕ → List ℕ → Result Airspace (List code.Fact) → Type 0
IsAirText file text (Ok air) = IsAirspace text air
IsAirText file text (Err facts) =
    (error : AirError) × (error ≢ air_error.Memory)
    × Tells (refusal_of (readings_of text)) error × (facts ≡ refused file obstacle.NotRead ∷ [])

-- the airspace of a file of which this is seen, or that it can't be used
abbrev pub IsAirSeen : List ℕ → code_sight.Sight → Result Airspace (List code.Fact) → Type 0
IsAirSeen file sight.Absent air = air ≡ Err (refused file obstacle.NoFile ∷ [])
IsAirSeen file sight.TooLarge air = air ≡ Err (refused file obstacle.TooLarge ∷ [])
IsAirSeen file (sight.Bytes bytes) air = IsAirText file bytes.items air

-- the airspace of the file that a task names, or that this can't be used; without a file there is
-- no volume
abbrev pub IsAirOf : Option FilesByName → List (List ℕ) → Option (List ℕ)
    → Result Airspace (List code.Fact) → Type 0
IsAirOf folder names None air = (none : Airspace) × (none.volumes ≡ []) × (air ≡ Ok none)
IsAirOf folder names (Some file) air =
    (sight : code_sight.Sight) × IsSightIn folder names file sight × IsAirSeen file sight air

-- the flights of all entrants, which a task with this airspace gives: what is told of those who are
-- asked for, in the task's order, and then of the points that all of them give
pub record AreScoredTold (folder : Option FilesByName) (names : List (List ℕ))
    (choice : Option (List ℕ)) (task : Task) (air : Airspace) (facts : List code.Fact)
    : Type 0 where
  pub flights : List Flight
  pub flown : List code.Fact
  pub flown_are :
      AreFlown (IsToldIfWanted choice folder names task air) task.entrants flights flown
  pub results : List code.Fact
  pub results_are : AreResultsTold choice task.entrants flights results
  pub told : facts ≡ flown ++ results

-- what is told of the entrants of a task with this airspace: of each that is asked for, in the
-- task's order; or that none is
abbrev pub AreEntrantsTold : Option FilesByName → List (List ℕ) → List ℕ → Option (List ℕ) → Task
    → Airspace → List code.Fact → Type 0
AreEntrantsTold folder names file choice task air facts =
    MatchBool (list_any (is_wanted choice) task.entrants)
    (AreScoredTold folder names choice task air facts)
    (facts ≡ refused file obstacle.NoEntrant ∷ [])

abbrev pub IsToldWith : Option FilesByName → List (List ℕ) → List ℕ → Option (List ℕ) → Task
    → Result Airspace (List code.Fact) → List code.Fact → Type 0
IsToldWith folder names file choice task (Ok air) facts =
    AreEntrantsTold folder names file choice task air facts
IsToldWith folder names file choice task (Err none) facts = facts ≡ none

-- what is told of a task
pub record IsTaskTold (folder : Option FilesByName) (names : List (List ℕ)) (file : List ℕ)
    (choice : Option (List ℕ)) (task : Task) (facts : List code.Fact) : Type 0 where
  pub air : Result Airspace (List code.Fact)
  pub air_is : IsAirOf folder names task.airspace air
  pub is : IsToldWith folder names file choice task air facts

-- what is told of the text of a task file: it says no task, or what is told of its task
pub data IsTaskTextTold (folder : Option FilesByName) (names : List (List ℕ)) (file : List ℕ)
    (choice : Option (List ℕ)) (text : List ℕ) (facts : List code.Fact) : Type 0 where
  no_task : (wrong : TaskError) → wrong ≢ task_error.Memory → IsRefusalOf text wrong
      → facts ≡ refused file obstacle.NotRead ∷ []
      → IsTaskTextTold folder names file choice text facts
  some_task : (task : Task) → IsReadFrom text task
      → IsTaskTold folder names file choice task facts
      → IsTaskTextTold folder names file choice text facts

-- what is told of a task file of which this is seen
abbrev pub IsTaskSeenTold : Option FilesByName → List (List ℕ) → List ℕ → Option (List ℕ)
    → code_sight.Sight → List code.Fact → Type 0
IsTaskSeenTold folder names file choice sight.Absent facts =
    facts ≡ refused file obstacle.NoFile ∷ []
IsTaskSeenTold folder names file choice sight.TooLarge facts =
    facts ≡ refused file obstacle.TooLarge ∷ []
IsTaskSeenTold folder names file choice (sight.Bytes bytes) facts =
    IsTaskTextTold folder names file choice bytes.items facts

-- what is told of the entrants of a task file in its folder, of each or of the one with a number
pub record IsDayTold (folder : Option FilesByName) (file : List ℕ) (choice : Option (List ℕ))
    (facts : List code.Fact) : Type 0 where
  pub names : List (List ℕ)
  pub lists : ListsNames folder names
  pub sight : code_sight.Sight
  pub seen : IsSightIn folder names file sight
  pub is : IsTaskSeenTold folder names file choice sight facts
