-- The files of a day: their tests in their order, and what they give.
use Rattle.std.specs.Prelude.{◌≡◌, ℕ, List, [], ◌∷◌, ◌++◌, Option, None, Some, Result, Ok, Err, IsSomeAnd, codes}
use Rattle.std.specs.Option.{option_and_then}
use Rattle.toml.specs.Parse.{parse_document}
use Rattle.gl_airspace.specs.Airspace.{IsAirspace}
use Rattle.gl_airspace.specs.Parts.{Tells}
use Rattle.gl_airspace.specs.Volumes.{readings_of, refusal_of}
use Rattle.gl_airspace.specs.declared.error.AirError.{AirError}
use Rattle.gl_airspace.specs.declared.error.AirError.TheVariants as air
use Rattle.gl_airspace.specs.declared.volume.Airspace.{Airspace}
use Rattle.gl_desk.specs.Desk.{FilesByName, IsSeenIn}
use Rattle.gl_desk.specs.Limits.{most_bytes}
use Rattle.gl_task.specs.declared.task.Task.{Task}
use Rattle.gl_task_file.specs.Keys.{said}
use Rattle.gl_task_file.specs.Reading.{IsReadFrom, IsRefusalOf}
use Rattle.gl_task_file.specs.Values.{file_name}
use Rattle.gl_task_file.specs.declared.error.TaskError.{TaskError}
use Rattle.gl_task_file.specs.declared.error.TaskError.TheVariants as task
use Rattle.gl_words.specs.DayWords.{DayNames}
use Rattle.gl_answer.specs.FileTests.{FileTest, HasTested, Kind, Listed, ProofText, Unlisted, text_tests}
use Rattle.gl_answer.specs.declared.halt.Halt.{Halt}
use Rattle.gl_answer.specs.declared.refusal.Cause.{Cause}
use Rattle.gl_answer.specs.declared.refusal.Cause.TheVariants.{NoKey, NotToml, NumberTwice, TooManyItems, TooMuchAirspace, WrongAirspace, WrongValue}
use Rattle.gl_day_files.specs.declared.day_files.DayFiles.{DayFiles}

-- why a text gives no task
abbrev pub task_cause : TaskError → Option Cause
task_cause task.Toml = Some NotToml
task_cause (task.Missing key) = Some (NoKey key)
task_cause (task.Value key) = Some (WrongValue key)
task_cause (task.Twice key) = Some (NumberTwice key)
task_cause (task.TooMany key) = Some (TooManyItems key)
task_cause task.Memory = None

-- a task
abbrev pub TaskText : Kind
TaskText = record {
  IsText = λ text. (read : Task) × IsReadFrom text read;
  IsNoText = λ text cause.
      (error : TaskError) × IsRefusalOf text error × (task_cause error ≡ Some cause);
}

-- why a text gives no airspace
abbrev pub airspace_cause : AirError → Option Cause
airspace_cause (air.Line line) = Some (WrongAirspace line)
airspace_cause (air.TooMany line) = Some (TooMuchAirspace line)
airspace_cause air.Memory = None

-- airspace
abbrev pub AirspaceText : Kind
AirspaceText = record {
  IsText = λ text. (read : Airspace) × IsAirspace text read;
  IsNoText = λ text cause.
      (error : AirError) × Tells (refusal_of (readings_of text)) error
      × (airspace_cause error ≡ Some cause);
}

-- What a test saw under a name meets a fact: the bytes of a file, or none where it isn't listed.
-- Where the desk tells its folder, that is what the folder has.
abbrev pub Sees : Option FilesByName → List ℕ → (Option (List ℕ) → Type 0) → Type 0
Sees folder file P = (seen : Option (List ℕ)) × IsSeenIn folder file seen × P seen

-- the airspace file that the text of a task names, if it names one
unfoldable pub named_airspace : List ℕ → Option (List ℕ)
named_airspace text = option_and_then (said (codes "airspace") file_name) (parse_document text)

-- so by what is seen of the task
abbrev pub airspace_file : Option (List ℕ) → Option (List ℕ)
airspace_file task = option_and_then named_airspace task

-- what is seen of an airspace file, if there is one
abbrev pub IsAirspaceSeen : Option FilesByName → Option (List ℕ) → Option (List ℕ) → Type 0
IsAirspaceSeen folder None seen = seen ≡ None
IsAirspaceSeen folder (Some file) seen = IsSeenIn folder file seen

-- what is seen of the task, and of the airspace file that it names
pub record TaskSeen : Type 0 where
  pub text : Option (List ℕ)
  pub airspace : Option (List ℕ)

pub record IsTaskSeen (file : List ℕ) (folder : Option FilesByName) (seen : TaskSeen) : Type 0 where
  pub text : IsSeenIn folder file seen.text
  pub airspace : IsAirspaceSeen folder (airspace_file seen.text) seen.airspace

-- an airspace file, if there is one, is listed; then its text
abbrev pub airspace_tests : Option (List ℕ) → Option (List ℕ) → List FileTest
airspace_tests None seen = []
airspace_tests (Some file) seen = Listed file seen ∷ text_tests AirspaceText most_bytes file seen

-- the text of the task, and then its airspace
abbrev pub task_tests : List ℕ → TaskSeen → List FileTest
task_tests file seen =
    text_tests TaskText most_bytes file seen.text
    ++ airspace_tests (airspace_file seen.text) seen.airspace

-- this airspace was read, which has no volume if there is no file
abbrev pub IsAirspaceRead : Option (List ℕ) → Airspace → Type 0
IsAirspaceRead None read = read.volumes ≡ []
IsAirspaceRead (Some text) read = IsAirspace text read

-- this task and this airspace were read
pub record IsDayRead (seen : TaskSeen) (day : DayFiles) : Type 0 where
  pub task : IsSomeAnd seen.text (λ text. IsReadFrom text day.task)
  pub airspace : IsAirspaceRead seen.airspace day.airspace

-- what is seen of the files of `score` and `check`
pub record ScoreSeen : Type 0 where
  pub task : TaskSeen
  pub proof : Option (List ℕ)

pub record IsScoreSeen (names : DayNames) (folder : Option FilesByName) (seen : ScoreSeen)
    : Type 0 where
  pub task : IsTaskSeen names.task folder seen.task
  pub proof : IsSeenIn folder names.proof seen.proof

-- The files that `score` needs: the task is listed, and the proof isn't; then the task and its
-- airspace.
abbrev pub score_tests : DayNames → ScoreSeen → List FileTest
score_tests names seen =
    Listed names.task seen.task.text ∷ Unlisted names.proof seen.proof
    ∷ task_tests names.task seen.task

-- The files that `check` needs: the task is listed, and the proof is; then the task and its
-- airspace, and then the proof, which has at most so many bytes.
abbrev pub check_tests : ℕ → DayNames → ScoreSeen → List FileTest
check_tests most names seen =
    Listed names.task seen.task.text ∷ Listed names.proof seen.proof
    ∷ (task_tests names.task seen.task ++ text_tests ProofText most names.proof seen.proof)

-- this day was read
abbrev pub IsScoreRead : ScoreSeen → DayFiles → Type 0
IsScoreRead seen day = IsDayRead seen.task day

-- what the tests of `check` before that of the proof's text end with: the task and its airspace pass
-- them and were read, or the first that fails refuses its file
abbrev pub HasTestedDay : ℕ → Option FilesByName → DayNames → Result DayFiles Halt → Type 0
HasTestedDay most folder names (Ok day) =
    HasTested (IsTaskSeen names.task folder) (task_tests names.task) IsDayRead (Ok day)
HasTestedDay most folder names (Err halt) =
    HasTested {X = DayFiles} (IsScoreSeen names folder) (check_tests most names) (λ seen day. ⊥)
    (Err halt)
