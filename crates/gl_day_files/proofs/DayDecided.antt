-- No file of a day passes a test and fails it.
use Rattle.std.proofs.Common.{◌≡◌, ◌∙◌, sym, ap, ℕ, List, Option, None, Some}
use Rattle.gl_words.specs.DayWords.{DayNames}
use Rattle.gl_answer.specs.FileTests.{ProofText, text_tests}
use Rattle.gl_answer.specs.declared.refusal.Cause.{Cause}
use Rattle.gl_answer.proofs.FileTests.{AreDecided, IsDecided, all_decided, proof_decided}
use Rattle.gl_day_files.specs.DayFiles.{AirspaceText, ScoreSeen, TaskSeen, TaskText, airspace_cause, airspace_file, airspace_tests, check_tests, score_tests, task_cause, task_tests}
use Rattle.gl_day_files.proofs.Readings.{airspace_refused, task_refused}

-- no text gives a task and is refused
pub task_decided : IsDecided TaskText
task_decided text cause (read, is) (error, told, why) =
    let e : ◌≡◌ {A = Option Cause} None (Some cause) = sym (ap task_cause (task_refused text read error is told)) ∙ why in cc

-- no text gives airspace and is refused
pub airspace_decided : IsDecided AirspaceText
airspace_decided text cause (read, is) (error, told, why) =
    let e : ◌≡◌ {A = Option Cause} None (Some cause) = sym (ap airspace_cause (airspace_refused text read error is told)) ∙ why in cc

-- so no test of the airspace file, of the task, of `score` and of `check` passes and fails
airspace_tests_decided : (file seen : Option (List ℕ)) → AreDecided (airspace_tests file seen)
airspace_tests_decided None seen = tt
airspace_tests_decided (Some file) seen = (tt, (tt, (airspace_decided, tt)))

task_tests_decided : (file : List ℕ) (seen : TaskSeen) → AreDecided (task_tests file seen)
task_tests_decided file seen = (tt, (task_decided, airspace_tests_decided (airspace_file seen.text) seen.airspace))

pub score_decided : (names : DayNames) (seen : ScoreSeen) → AreDecided (score_tests names seen)
score_decided names seen = (tt, (tt, task_tests_decided names.task seen.task))

pub check_decided : (most : ℕ) (names : DayNames) (seen : ScoreSeen) → AreDecided (check_tests most names seen)
check_decided most names seen = (
  tt,
  (tt, all_decided (task_tests names.task seen.task) (text_tests ProofText most names.proof seen.proof) (task_tests_decided names.task seen.task) (tt, (proof_decided, tt))),
)
