-- The right answer of `score`, and what it appends where it is stopped.
use Rattle.std.specs.Prelude.{◌≡◌, ℕ, List, Option, Some}
use Rattle.std.specs.List.{AllZip}
use Rattle.gl_desk.specs.Desk.{FilesByName}
use Rattle.gl_proof.specs.Text.{IsTextOf}
use Rattle.gl_proof.specs.declared.version.Version.TheVariants.{Two}
use Rattle.gl_day.specs.Day.{IsSheetOf}
use Rattle.gl_day.specs.Flight.{StewardRules}
use Rattle.gl_words.specs.DayWords.{DayNames}
use Rattle.gl_day_files.specs.declared.day_files.DayFiles.{DayFiles}
use Rattle.gl_day_files.specs.DayFiles.{IsScoreRead, IsScoreSeen, ScoreSeen, score_tests}
use Rattle.gl_answer.specs.FileTests.{AllPass}
use Rattle.gl_day_claims.specs.Scored.{Scored, IsScored, statements_of_all, flights_of_all, IsBegun}
use Rattle.gl_answer.specs.declared.status.Status.TheVariants.{Done}
use Rattle.gl_answer.specs.Answer.{Answer}
use Rattle.gl_answer.specs.ByTests.{IsByTests, PassByTests}
use Rattle.gl_answer.specs.Promise.{Promise}

-- The answer of a day: what is appended is the text, in version 2, of a proof that has the claims
-- of all entrants, each proved, and what is said is the sheet of their flights.
pub record IsDayScored (folder : Option FilesByName) (day : DayFiles) (stewards : List StewardRules)
    (answer : Answer) : Type 0 where
  pub scored : List Scored
  pub each : AllZip (IsScored folder day stewards) day.task.entrants scored
  pub ended : answer.status ≡ Done
  pub appended : IsTextOf Two answer.appended (statements_of_all scored)
  pub said : IsSheetOf day.task (flights_of_all scored) answer.said

-- so for the day that was seen
abbrev pub IsScoreTold : Option FilesByName → List StewardRules → ScoreSeen → Answer → Type 0
IsScoreTold folder stewards seen answer =
    (day : DayFiles) × IsScoreRead seen day × IsDayScored folder day stewards answer

-- the answer of `score`
abbrev pub IsScore : Option FilesByName → List StewardRules → DayNames → Answer → Type 0
IsScore folder stewards names answer =
    IsByTests (IsScoreSeen names folder) (score_tests names) (IsScoreTold folder stewards) answer

-- this day was read of files that pass every test of `score`
abbrev pub IsScoreDay : Option FilesByName → DayNames → DayFiles → Type 0
IsScoreDay folder names day =
    (seen : ScoreSeen) × IsScoreSeen names folder seen × AllPass (score_tests names seen)
    × IsScoreRead seen day

-- a first part of the proof of a day, for that of a folder whose files pass the tests
abbrev pub IsScoreBegun : Option FilesByName → DayNames → List ℕ → Type 0
IsScoreBegun folder names text =
    (day : DayFiles) × IsScoreDay folder names day × IsBegun folder day text

-- the promise of `score`
abbrev pub score_promise : Option FilesByName → List StewardRules → DayNames → Promise
score_promise folder stewards names = record {
  IsRight = IsScore folder stewards names;
  IsBegun = IsScoreBegun folder names;
  Passes = PassByTests folder (IsScoreSeen names) (score_tests names);
  ChecksOwn = ⊥;
  target = Some names.proof;
}
