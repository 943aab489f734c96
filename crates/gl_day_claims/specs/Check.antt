-- The right answer of `check`.
use Rattle.std.specs.Prelude.{◌≡◌, ◌≢◌, ℕ, ◌≤◌, List, Option, Some, length, None, IsSomeAnd}
use Rattle.gl_desk.specs.Desk.{FilesByName}
use Rattle.gl_day.specs.declared.fault.Checked.{Checked}
use Rattle.gl_day.specs.declared.fault.Checked.TheVariants.{Accepted, Refused}
use Rattle.gl_day.specs.declared.fault.NotProved.{NotProved}
use Rattle.gl_day.specs.Fault.{box_of_fault, word_of}
use Rattle.gl_day.specs.FileChecked.{SaysOfText}
use Rattle.gl_day.specs.Flight.{StewardRules}
use Rattle.gl_words.specs.DayWords.{DayNames}
use Rattle.gl_day_files.specs.declared.day_files.DayFiles.{DayFiles}
use Rattle.gl_day_files.specs.DayFiles.{IsDayRead, IsScoreSeen, ScoreSeen, check_tests}
use Rattle.gl_answer.specs.FileTests.{most_proof_bytes}
use Rattle.gl_day_claims.specs.DayChecked.{IsDayChecked}
use Rattle.gl_answer.specs.declared.status.Status.TheVariants as status
use Rattle.gl_answer.specs.Answer.{Answer, saying}
use Rattle.gl_answer.specs.ByTests.{IsByTests, PassByTests}
use Rattle.gl_answer.specs.Promise.{IsTold, Promise}
use Rattle.gl_day_claims.specs.Score.{IsScore}
use Rattle.gl_answer.specs.Texts.{accepted_line, wrong_line}

-- the line for a proof that isn't that of its day, about the first claim that is wrong
abbrev pub not_proved_line : NotProved → List ℕ
not_proved_line wrong = wrong_line wrong.claim (word_of wrong.fault) (box_of_fault wrong.fault)

-- the answer that says what was found
abbrev pub checked_answer : Checked → Answer
checked_answer (Accepted claims) = saying status.Done (accepted_line claims)
checked_answer (Refused wrong) = saying status.NotProved (not_proved_line wrong)

-- a text is a proof, and this is to be said of its claims by the files of a day
abbrev pub IsTextChecked : Option FilesByName → DayFiles → List ℕ → Checked → Type 0
IsTextChecked folder day text said =
    SaysOfText (λ statements checked. IsDayChecked folder day statements checked) text said

-- what is to be said of the proof that was seen, by the day that was
abbrev pub IsProofChecked : Option FilesByName → ScoreSeen → Checked → Type 0
IsProofChecked folder seen said =
    (day : DayFiles) × IsDayRead seen.task day
    × IsSomeAnd seen.proof (λ text. IsTextChecked folder day text said)

abbrev pub IsCheckTold : Option FilesByName → ScoreSeen → Answer → Type 0
IsCheckTold folder seen answer =
    (said : Checked) × IsProofChecked folder seen said × (answer ≡ checked_answer said)

-- the answer of `check`
abbrev pub IsCheck : Option FilesByName → DayNames → Answer → Type 0
IsCheck folder names answer =
    IsByTests (IsScoreSeen names folder) (check_tests most_proof_bytes names) (IsCheckTold folder)
    answer

-- A folder in which `score` ended with a result: it has the proof that was appended, of at most so
-- many bytes, and else the files that it had before.
pub record IsScoredFolder (most : ℕ) (files : FilesByName) (names : DayNames) : Type 0 where
  pub before : FilesByName
  pub stewards : List StewardRules
  pub answer : Answer
  pub scored : IsScore (Some before) stewards names answer
  pub done : answer.status ≡ status.Done
  pub small : length answer.appended ≤ most
  pub proof : files names.proof ≡ Some answer.appended
  pub others : (other : List ℕ) → other ≢ names.proof → files other ≡ before other

-- the promise of `check`
abbrev pub check_promise : Option FilesByName → DayNames → Promise
check_promise folder names = record {
  IsRight = IsCheck folder names;
  IsBegun = λ text. ⊥;
  Passes = PassByTests folder (IsScoreSeen names) (check_tests most_proof_bytes names);
  ChecksOwn = IsTold folder (λ files. IsScoredFolder most_proof_bytes files names);
  target = None;
}
