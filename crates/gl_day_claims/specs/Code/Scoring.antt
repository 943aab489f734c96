-- How `score` goes on from claim to claim, and from entrant to entrant.
use Rattle.std.specs.Prelude.{◌≡◌, ℕ, List, Option}
use Rattle.std.specs.List.{AllZip, flat_map}
use Rattle.gl_desk.specs.Desk.{Told}
use Rattle.gl_desk.specs.declared.error.DeskError.{DeskError}
use Rattle.gl_proof.specs.Claim.{Statement, claim_text}
use Rattle.gl_task.specs.declared.task.Entrant.{Entrant}
use Rattle.gl_day.specs.declared.flight.Flight.{Flight}
use Rattle.gl_day.specs.declared.totals.Totals.{Totals}
use Rattle.gl_day.specs.Expected.{Expected, Proves}
use Rattle.gl_day.specs.Flight.{IsFlight, StewardRules}
use Rattle.gl_day.specs.Totals.{AreTotals}
use Rattle.gl_day.specs.Asked.{AreAskedOf}
use Rattle.gl_day_files.specs.declared.day_files.DayFiles.{DayFiles}
use Rattle.gl_answer.specs.Appending.{HasAppended, HasAppendedPart}
use Rattle.gl_day_claims.specs.Scored.{ArePartlyProved, IsScored, Scored, flights_of_all, statements_of_all, text_so_far}

-- the claims that are expected are proved, these are their totals, and their lines were appended
pub record AreClaimed (expected : List Expected) (totals : Totals) (proof : List ℕ)
    (before now : Told) : Type 0 where
  pub statements : List Statement
  pub each : AllZip Proves expected statements
  pub totals_are : AreTotals statements totals
  pub appended : HasAppended proof (flat_map claim_text statements) before now

-- the first of the claims that are expected are proved, and a first part of their lines was
-- appended when the run was stopped
pub record AreClaimedPartly (expected : List Expected) (proof : List ℕ) (before now : Told)
    (stop : DeskError) : Type 0 where
  pub statements : List Statement
  pub partly : ArePartlyProved expected statements
  pub appended : HasAppendedPart proof (flat_map claim_text statements) before now stop

-- an entrant is done: this is the flight, and the lines of its claims were appended
pub record IsEntrantScored (day : DayFiles) (stewards : List StewardRules) (entrant : Entrant)
    (seen : Option (List ℕ)) (proof : List ℕ) (before now : Told) (flight : Flight)
    : Type 0 where
  pub statements : List Statement
  pub is : IsFlight day.task day.airspace stewards entrant seen statements flight
  pub appended : HasAppended proof (flat_map claim_text statements) before now

-- the run was stopped at an entrant of whom claims are expected
pub record IsEntrantBegun (day : DayFiles) (entrant : Entrant) (seen : Option (List ℕ))
    (proof : List ℕ) (before now : Told) (stop : DeskError) : Type 0 where
  pub expected : List Expected
  pub asked : AreAskedOf day.task day.airspace entrant seen expected
  pub partly : AreClaimedPartly expected proof before now stop

-- so many entrants are done: these are their flights, and the heading and the lines of their claims
-- were appended
pub record AreEntrantsScored (day : DayFiles) (stewards : List StewardRules)
    (entrants : List Entrant) (proof : List ℕ) (before now : Told) (flights : List Flight)
    : Type 0 where
  pub scored : List Scored
  pub each : AllZip (IsScored before.folder day stewards) entrants scored
  pub are : flights ≡ flights_of_all scored
  pub appended : HasAppended proof (text_so_far (statements_of_all scored)) before now
