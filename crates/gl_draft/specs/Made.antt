-- What is made of a file and the recordings of a folder, and why nothing is.
use Rattle.std.specs.Prelude.{◌≡◌, ℕ, ◌<◌, ◌≤◌, List, [], filter, length, Option, None, Some}
use Rattle.gl_cup.specs.Reading.{IsRefusalOf, IsTaskOf}
use Rattle.gl_cup.specs.declared.error.CupError.{CupError}
use Rattle.gl_cup.specs.declared.point.CupTask.{CupTask}
use Rattle.gl_desk.specs.declared.error.DeskError.TheVariants as desk
use Rattle.gl_desk.specs.Desk.{FilesByName, IsLongerThan, IsSeenIn}
use Rattle.gl_desk.specs.Limits.{most_bytes}
use Rattle.gl_task_file.specs.Reading.{IsReadFrom, IsRefusalOf as IsNoFile}
use Rattle.gl_task_file.specs.declared.error.TaskError.{TaskError}
use Rattle.gl_draft.specs.declared.command.Source as code
use Rattle.gl_draft.specs.declared.command.Source.TheVariants as source
use Rattle.gl_draft.specs.declared.draft.Draft.{Draft}
use Rattle.gl_draft.specs.declared.recording.Recording.{Recording}
use Rattle.gl_draft.specs.declared.refusal.Cause as code_cause
use Rattle.gl_draft.specs.declared.refusal.Cause.TheVariants as cause
use Rattle.gl_draft.specs.declared.words.Asks as code_asks
use Rattle.gl_draft.specs.declared.words.Asks.TheVariants as asks
use Rattle.gl_draft.specs.Causes.{IsStopped, cause_of_cup, cause_of_file}
use Rattle.gl_draft.specs.Draft.{IsDraftText, IsNoDraft}
use Rattle.gl_draft.specs.Late.{IsLateText, is_late}
use Rattle.gl_draft.specs.Recordings.{AreRecordingsOf, common_day, entrants_of}
use Rattle.gl_draft.specs.Taken.{IsCourseOf, IsDay, IsShapeless, is_area_task, kind_by}
use Rattle.gl_draft.specs.Words.{Asked}

-- a file of the folder has these bytes, which aren't too many
pub record IsFileIn (folder : Option FilesByName) (file bytes : List ℕ) : Type 0 where
  pub seen : IsSeenIn folder file (Some bytes)
  pub short : length bytes ≤ most_bytes

-- why a file of the folder isn't read: there is none, it has too many bytes, or something stopped
pub data IsNoFileIn (folder : Option FilesByName) (file : List ℕ) (why : code_cause.Cause)
    : Type 0 where
  not_listed : IsSeenIn folder file None → why ≡ cause.NotListed → IsNoFileIn folder file why
  too_large : IsLongerThan most_bytes folder file → why ≡ cause.TooLarge
      → IsNoFileIn folder file why
  stopped : IsStopped why → IsNoFileIn folder file why

-- what bytes say, as is asked: a task of a SeeYou file, by its number or as the only one, which has
-- three points or more; or the task of a task file
abbrev pub IsSourceOf : List ℕ → code_asks.Asks → code.Source → Type 0
IsSourceOf bytes (asks.Task number) (source.Cup task) =
    IsTaskOf bytes number task × (3 ≤ length task.points)
IsSourceOf bytes asks.Late (source.Day task) = IsReadFrom bytes task
IsSourceOf bytes what other = ⊥

-- why bytes give no task of a SeeYou file
pub record IsNoCup (bytes : List ℕ) (number : Option ℕ) (why : code_cause.Cause) : Type 0 where
  pub error : CupError
  pub refused : IsRefusalOf bytes number error
  pub why_is : why ≡ cause_of_cup error

-- why bytes are no task file
pub record IsNoDayText (bytes : List ℕ) (why : code_cause.Cause) : Type 0 where
  pub wrong : TaskError
  pub refused : IsNoFile bytes wrong
  pub why_is : why ≡ cause_of_file wrong

abbrev pub IsNoSourceOf : List ℕ → code_asks.Asks → code_cause.Cause → Type 0
IsNoSourceOf bytes (asks.Task number) why = IsNoCup bytes number why
IsNoSourceOf bytes asks.Late why = IsNoDayText bytes why

-- what the file that is asked for says, and the recordings of its folder
pub record AreSources (folder : Option FilesByName) (asked : Asked) (made : code.Source)
    (recordings : List Recording) : Type 0 where
  pub bytes : List ℕ
  pub file_is : IsFileIn folder asked.0 bytes
  pub says : IsSourceOf bytes asked.1 made
  pub are : AreRecordingsOf folder recordings

-- all that is taken from a task and recordings: the kind, the course, the entrants and the day
pub record IsDraftOf (task : CupTask) (recordings : List Recording) (draft : Draft) : Type 0 where
  pub kind_is : draft.kind ≡ kind_by (is_area_task task) task.time
  pub course : IsCourseOf task.points draft.start draft.zones draft.finish
  pub entrants : draft.entrants ≡ entrants_of recordings
  pub date : IsDay draft.date (common_day recordings)

-- the text of a task file for a task and recordings, of which there are some
pub record IsTextOf (task : CupTask) (recordings : List Recording) (text : List ℕ) : Type 0 where
  pub draft : Draft
  pub some : 0 < length recordings
  pub taken : IsDraftOf task recordings draft
  pub is : IsDraftText draft text

-- why there is none, the first of these: there is no recording, a zone is of a shape that a task
-- file can't say, or the text says no task with what was taken
pub data IsUnmade (task : CupTask) (recordings : List Recording) (why : code_cause.Cause)
    : Type 0 where
  nobody : recordings ≡ [] → why ≡ cause.NoRecording → IsUnmade task recordings why
  shapeless : (line number : ℕ) → 0 < length recordings → IsShapeless task.points line number
      → why ≡ cause.Shape line number → IsUnmade task recordings why
  unsaid : (draft : Draft) → 0 < length recordings → IsDraftOf task recordings draft
      → IsNoDraft draft why → IsUnmade task recordings why
  memory : why ≡ cause.Stopped desk.Memory → IsUnmade task recordings why

-- what is made: a task file, or the tables of those recordings that no entrant of the task names
abbrev pub IsTextFor : code.Source → List Recording → List ℕ → Type 0
IsTextFor (source.Cup task) recordings text = IsTextOf task recordings text
IsTextFor (source.Day task) recordings text =
    IsLateText task.entrants (filter (is_late task.entrants) recordings) text

abbrev pub IsNoTextFor : code.Source → List Recording → code_cause.Cause → Type 0
IsNoTextFor (source.Cup task) recordings why = IsUnmade task recordings why
IsNoTextFor (source.Day task) recordings why = why ≡ cause.Stopped desk.Memory

-- what is made of the file that is asked for and the recordings of the folder
pub record IsMade (folder : Option FilesByName) (asked : Asked) (text : List ℕ) : Type 0 where
  pub made : code.Source
  pub recordings : List Recording
  pub sources : AreSources folder asked made recordings
  pub text_is : IsTextFor made recordings text

-- why nothing is made
pub data IsRefused (folder : Option FilesByName) (asked : Asked) (why : code_cause.Cause)
    : Type 0 where
  no_file : IsNoFileIn folder asked.0 why → IsRefused folder asked why
  no_source : (bytes : List ℕ) → IsFileIn folder asked.0 bytes → IsNoSourceOf bytes asked.1 why
      → IsRefused folder asked why
  no_text : (made : code.Source) → (recordings : List Recording)
      → AreSources folder asked made recordings → IsNoTextFor made recordings why
      → IsRefused folder asked why
  halted : IsStopped why → IsRefused folder asked why
