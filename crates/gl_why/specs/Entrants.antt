-- What is told of an entrant, by the file that the folder has for him, the task and its airspace.
use Rattle.std.specs.Prelude.{◌≡◌, ℕ, ◌<◌, ◌-◌, ◌++◌, if◌then◌else◌, List, [], ◌∷◌, length, Option, None, Some}
use Rattle.gl_airspace.specs.declared.volume.Airspace.{Airspace}
use Rattle.gl_day.specs.Flight.{IsFlight, IsSeen}
use Rattle.gl_day.specs.declared.flight.Flight.{Flight}
use Rattle.gl_day.specs.declared.flight.Seen as code_seen
use Rattle.gl_day.specs.declared.flight.Seen.TheVariants as seen
use Rattle.gl_desk.specs.Desk.{FilesByName}
use Rattle.gl_desk.specs.Limits.{most_bytes}
use Rattle.gl_igc.specs.declared.recording.Recording.{Recording}
use Rattle.gl_judge.specs.declared.outcome.Judged.{Judged}
use Rattle.gl_proof.specs.Claim.{Statement}
use Rattle.gl_task.specs.Penalty.{penalty}
use Rattle.gl_task.specs.declared.task.Entrant.{Entrant}
use Rattle.gl_task.specs.declared.task.Task.{Task}
use Rattle.gl_why.specs.Credits.{AreCreditsTold, credited_by}
use Rattle.gl_why.specs.Crossings.{IsSpot}
use Rattle.gl_why.specs.Fines.{AreFinesTold, points_told}
use Rattle.gl_why.specs.Flights.{AreFlightTold}
use Rattle.gl_why.specs.Sights.{IsSightIn}
use Rattle.gl_why.specs.Stewards.{the_stewards}
use Rattle.gl_why.specs.Wanted.{is_wanted}
use Rattle.gl_why.specs.declared.fact.Extent.{Extent}
use Rattle.gl_why.specs.declared.fact.Fact as code
use Rattle.gl_why.specs.declared.fact.Fact.TheVariants as fact
use Rattle.gl_why.specs.declared.sight.Sight as code_sight
use Rattle.gl_why.specs.declared.sight.Sight.TheVariants as sight

-- how many fixes a recording has, its first and its last
pub record IsExtent (recording : Recording) (extent : Extent) : Type 0 where
  pub count_is : extent.count ≡ length recording.fixes
  pub first_is : extent.first.number ≡ 0
  pub first_spot : IsSpot recording.fixes extent.first
  pub last_is : extent.last.number ≡ length recording.fixes - 1
  pub last_spot : IsSpot recording.fixes extent.last

-- What is told of an entrant with a recording, whose claims are these statements: what became of
-- the flight, what was read, what is found of the flight, which fixes its distance goes by, which
-- points the rules charge, and what counts of it. The points that are told, at most 1,000 together,
-- are the penalty.
pub record IsRecordedTold (task : Task) (air : Airspace) (entrant : Entrant)
    (recording : Recording) (statements : List Statement) (flight : Flight)
    (facts : List code.Fact) : Type 0 where
  pub judged : Judged
  pub extent : Extent
  pub extent_is : IsExtent recording extent
  pub found : List code.Fact
  pub found_are : AreFlightTold task air recording judged found
  pub credits : List code.Fact
  pub credits_are : AreCreditsTold recording.fixes (credited_by statements) credits
  pub fines : List code.Fact
  pub fines_are : AreFinesTold task.rules recording.fixes judged fines
  pub penalty_is : flight.penalty ≡ penalty (points_told fines)
  pub told : facts
      ≡ (fact.Entrant entrant.number flight.outcome ∷ fact.Read extent ∷ [])
      ++ (found ++ (credits ++ (fines ++ fact.Counted entrant.number flight ∷ [])))

-- what is told of an entrant of whose file this is seen
abbrev pub IsFileTold : Task → Airspace → Entrant → code_seen.Seen → List Statement → Flight
    → List code.Fact → Type 0
IsFileTold task air entrant (seen.Recorded recording) statements flight facts =
    IsRecordedTold task air entrant recording statements flight facts
IsFileTold task air entrant (seen.Refused refused) statements flight facts =
    facts ≡ fact.Entrant entrant.number flight.outcome ∷ []

-- The bytes of the file give this flight, as the sheet has it, and this is told of the entrant.
pub record IsBytesTold (task : Task) (air : Airspace) (entrant : Entrant) (text : List ℕ)
    (flight : Flight) (facts : List code.Fact) : Type 0 where
  pub statements : List Statement
  pub flight_is : IsFlight task air the_stewards entrant (Some text) statements flight
  pub file : code_seen.Seen
  pub file_is : IsSeen task entrant text file
  pub is : IsFileTold task air entrant file statements flight facts

-- what is told of an entrant of whose file this is seen, and the flight of the sheet
abbrev pub IsSeenTold : Task → Airspace → Entrant → code_sight.Sight → Flight → List code.Fact
    → Type 0
IsSeenTold task air entrant sight.Absent flight facts =
    IsFlight task air the_stewards entrant None [] flight
    × (facts ≡ fact.Entrant entrant.number flight.outcome ∷ [])
IsSeenTold task air entrant sight.TooLarge flight facts =
    ((bytes : List ℕ) → most_bytes < length bytes
    → IsFlight task air the_stewards entrant (Some bytes) [] flight)
    × (facts ≡ fact.Entrant entrant.number flight.outcome ∷ [])
IsSeenTold task air entrant (sight.Bytes bytes) flight facts =
    IsBytesTold task air entrant bytes.items flight facts

-- what is told of an entrant in a folder with these names, and the flight of the sheet
pub record IsEntrantTold (folder : Option FilesByName) (names : List (List ℕ)) (task : Task)
    (air : Airspace) (entrant : Entrant) (flight : Flight) (facts : List code.Fact)
    : Type 0 where
  pub sight : code_sight.Sight
  pub seen : IsSightIn folder names entrant.file sight
  pub is : IsSeenTold task air entrant sight flight facts

-- of one who isn't asked for nothing is told, but the flight counts for the day
pub record IsToldIfWanted (choice : Option (List ℕ)) (folder : Option FilesByName)
    (names : List (List ℕ)) (task : Task) (air : Airspace) (entrant : Entrant) (flight : Flight)
    (facts : List code.Fact) : Type 0 where
  pub all : List code.Fact
  pub is : IsEntrantTold folder names task air entrant flight all
  pub told : facts ≡ (if is_wanted choice entrant then all else [])
