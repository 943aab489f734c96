-- What is seen of the entrants' files in the code.
use Rattle.std.specs.Prelude.{◌≡◌, ℕ, List, [], Option, None, Some, Contains}
use Rattle.gl_airspace.specs.declared.volume.Airspace.{Airspace}
use Rattle.gl_desk.specs.Desk.{FilesByName, IsSeenIn}
use Rattle.gl_task.specs.declared.task.Entrant.{Entrant}
use Rattle.gl_task.specs.declared.task.Task.{Task}
use Rattle.gl_day.specs.declared.flight.Seen.{Seen}
use Rattle.gl_day.specs.declared.flight.Seen.TheVariants as code
use Rattle.gl_day.specs.Flight.{IsFlight, IsSeen, StewardRules}

-- what is seen of a file that is one of the names, or isn't
abbrev pub IsSeenAmong : List (List ℕ) → Option FilesByName → List ℕ → Option (List ℕ) → Type 0
IsSeenAmong names folder file None = Contains names file → ⊥
IsSeenAmong names folder file (Some bytes) =
    Contains names file × IsSeenIn folder file (Some bytes)

-- what an entrant's file is in the code, where this is seen of it
abbrev pub IsEntrantSeen : Task → Entrant → Option (List ℕ) → Seen → Type 0
IsEntrantSeen task entrant seen (code.Recorded recording) =
    (bytes : List ℕ) × (seen ≡ Some bytes) × IsSeen task entrant bytes (code.Recorded recording)
IsEntrantSeen task entrant seen (code.Refused flight) =
    (air : Airspace) (stewards : List StewardRules)
    → IsFlight task air stewards entrant seen [] flight
