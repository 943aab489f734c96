-- What the code tells of an entrant, whichever the bytes of the recording are.
use Rattle.std.specs.Prelude.{ℕ, ◌≤◌, List, Some, length}
use Rattle.gl_airspace.specs.declared.volume.Airspace.{Airspace}
use Rattle.gl_day.specs.Flight.{IsFlight, IsSeen}
use Rattle.gl_day.specs.declared.flight.Flight.{Flight}
use Rattle.gl_day.specs.declared.flight.Seen.TheVariants.{Recorded}
use Rattle.gl_desk.specs.Limits.{most_bytes}
use Rattle.gl_igc.specs.declared.recording.Recording.{Recording}
use Rattle.gl_proof.specs.Claim.{Statement}
use Rattle.gl_task.specs.declared.task.Entrant.{Entrant}
use Rattle.gl_task.specs.declared.task.Task.{Task}
use Rattle.gl_why.specs.Entrants.{IsRecordedTold}
use Rattle.gl_why.specs.Stewards.{the_stewards}
use Rattle.gl_why.specs.declared.fact.Fact.{Fact}
use Rattle.gl_why.specs.declared.sight.Sight as code_sight
use Rattle.gl_why.specs.declared.sight.Sight.TheVariants as sight

-- what is told of an entrant with a recording, and its flight, by the same statements
pub record IsRecordingTold (task : Task) (air : Airspace) (entrant : Entrant)
    (recording : Recording) (flight : Flight) (facts : List Fact) : Type 0 where
  pub statements : List Statement
  pub flight_is : (bytes : List ℕ) → IsSeen task entrant bytes (Recorded recording)
      → IsFlight task air the_stewards entrant (Some bytes) statements flight
  pub told : (bytes : List ℕ) → IsSeen task entrant bytes (Recorded recording)
      → IsRecordedTold task air entrant recording statements flight facts

-- bytes that are read are no more than are allowed
abbrev pub AreFewIn : code_sight.Sight → Type 0
AreFewIn sight.Absent = Unit {0}
AreFewIn sight.TooLarge = Unit {0}
AreFewIn (sight.Bytes bytes) = length bytes.items ≤ most_bytes
