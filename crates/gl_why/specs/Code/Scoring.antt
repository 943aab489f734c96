-- What the code finds of a flight before it tells of it.
use Rattle.std.specs.Prelude.{◌≡◌, ℕ, List, Some}
use Rattle.std.specs.List.{AllZip}
use Rattle.gl_airspace.specs.declared.volume.Airspace.{Airspace}
use Rattle.gl_day.specs.Expected.{Expected, Proves}
use Rattle.gl_day.specs.Flight.{IsFlight, IsSeen}
use Rattle.gl_day.specs.Totals.{AreTotals}
use Rattle.gl_day.specs.declared.flight.Seen.TheVariants.{Recorded}
use Rattle.gl_day.specs.declared.totals.Totals.{Totals}
use Rattle.gl_igc.specs.declared.recording.Recording.{Recording}
use Rattle.gl_judge.specs.Outcome.{IsJudged}
use Rattle.gl_proof.specs.Claim.{Statement}
use Rattle.gl_task.specs.declared.task.Entrant.{Entrant}
use Rattle.gl_task.specs.declared.task.Task.{Task}
use Rattle.gl_why.specs.Credits.{credited_by}
use Rattle.gl_why.specs.Stewards.{the_stewards}
use Rattle.gl_why.specs.declared.scoring.Scored.{Scored}

-- the claims that are expected are proved, and these are their totals and the fixes of the one for
-- the distance
pub record AreProven (expected : List Expected) (totals : Totals) (credited : List ℕ)
    : Type 0 where
  pub statements : List Statement
  pub each : AllZip Proves expected statements
  pub totals_are : AreTotals statements totals
  pub credited_are : credited ≡ credited_by statements

-- the flight of a recording, with its outcome and the fixes that its distance goes by
pub record IsScored (task : Task) (air : Airspace) (entrant : Entrant) (recording : Recording)
    (scored : Scored) : Type 0 where
  pub judged_is : IsJudged task air recording scored.judged
  pub statements : List Statement
  pub flight_is : (bytes : List ℕ) → IsSeen task entrant bytes (Recorded recording)
      → IsFlight task air the_stewards entrant (Some bytes) statements scored.flight
  pub credited_are : scored.credited.items ≡ credited_by statements
