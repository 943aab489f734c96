-- What `score` has appended once it is done with a day, or was stopped.
use Rattle.std.specs.Prelude.{ℕ, List}
use Rattle.std.specs.List.{AllZip}
use Rattle.gl_desk.specs.Desk.{Told}
use Rattle.gl_desk.specs.declared.error.DeskError.{DeskError}
use Rattle.gl_proof.specs.Text.{proof_text}
use Rattle.gl_proof.specs.declared.version.Version.TheVariants.{Two}
use Rattle.gl_day.specs.Day.{IsSheetOf}
use Rattle.gl_day.specs.Flight.{StewardRules}
use Rattle.gl_day_files.specs.declared.day_files.DayFiles.{DayFiles}
use Rattle.gl_answer.specs.Appending.{HasAppended, HasAppendedPart}
use Rattle.gl_day_claims.specs.Scored.{IsBegun, IsScored, Scored, flights_of_all, statements_of_all}

-- a first part of a proof of the day was appended when the run was stopped
pub record IsDayStopped (day : DayFiles) (proof : List ℕ) (before now : Told) (stop : DeskError)
    : Type 0 where
  pub text : List ℕ
  pub begun : IsBegun before.folder day text
  pub appended : HasAppendedPart proof text before now stop

-- the day is done: this is its sheet, and the text of its proof was appended
pub record IsDayDone (day : DayFiles) (stewards : List StewardRules) (proof : List ℕ)
    (before now : Told) (sheet : List ℕ) : Type 0 where
  pub scored : List Scored
  pub each : AllZip (IsScored before.folder day stewards) day.task.entrants scored
  pub appended : HasAppended proof (proof_text Two (statements_of_all scored)) before now
  pub sheet_is : IsSheetOf day.task (flights_of_all scored) sheet
