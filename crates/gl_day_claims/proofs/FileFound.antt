-- What is said of a proof by the files of its day, by the tests of `check`.
use Rattle.std.proofs.Common.{ℕ, Option, Result, Ok, Err}
use Rattle.gl_answer.specs.FileTests.{HasTested, ProofText}
use Rattle.gl_answer.specs.ReadFiles.{HasReadFile}
use Rattle.gl_answer.specs.declared.halt.Halt.{Halt}
use Rattle.gl_answer.specs.declared.halt.Halt.TheVariants.{Refused, Stopped}
use Rattle.gl_day.specs.declared.fault.Checked.{Checked}
use Rattle.gl_day_claims.specs.Check.{IsProofChecked, IsTextChecked}
use Rattle.gl_day_files.specs.DayFiles.{HasTestedDay, IsScoreSeen, check_tests}
use Rattle.gl_day_files.specs.declared.day_files.DayFiles.{DayFiles}
use Rattle.gl_day_files.proofs.DayTests.{check_tested}
use Rattle.gl_desk.specs.Desk.{FilesByName}
use Rattle.gl_words.specs.DayWords.{DayNames}

-- the day's files passed their tests, and then this was said of the proof's
pub proof_said : (most : ℕ) (folder : Option FilesByName) (names : DayNames) (day : DayFiles) (result : Result Checked Halt) → HasTestedDay most folder names (Ok day)
    → HasReadFile ProofText most folder names.proof (IsTextChecked folder day) result → HasTested (IsScoreSeen names folder) (check_tests most names) (IsProofChecked folder) result
proof_said most folder names day (Ok said) tested read =
    let all = check_tested most folder names day (Ok said) (IsTextChecked folder day) tested read in
    (all.0, all.1, all.2, (day, all.3.0, all.3.1))
proof_said most folder names day (Err (Refused refusal)) tested read = check_tested most folder names day (Err (Refused refusal)) (IsTextChecked folder day) tested read
proof_said most folder names day (Err (Stopped stop)) tested read = tt

-- or they didn't
pub day_said : (most : ℕ) (folder : Option FilesByName) (names : DayNames) (halt : Halt) → HasTestedDay most folder names (Err halt)
    → HasTested {X = Checked} (IsScoreSeen names folder) (check_tests most names) (IsProofChecked folder) (Err halt)
day_said most folder names (Refused refusal) tested = tested
day_said most folder names (Stopped stop) tested = tt
