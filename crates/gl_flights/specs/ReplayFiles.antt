-- The files of `replay`: their tests in their order, and what they give.
use Rattle.std.specs.Prelude.{◌≡◌, ℕ, List, ◌∷◌, ◌++◌, Option, None, Some, IsSomeAnd, Vec}
use Rattle.std.specs.declared.alloc.Global.{Global}
use Rattle.gl_desk.specs.Desk.{FilesByName, IsSeenIn}
use Rattle.gl_igc.specs.declared.recording.Recording.{Recording}
use Rattle.gl_replay.specs.Schedule.{IsRefused, IsSchedule}
use Rattle.gl_replay.specs.declared.error.StepError.{StepError}
use Rattle.gl_replay.specs.declared.error.StepError.TheVariants as step
use Rattle.gl_replay.specs.declared.schedule.Step.{Step}
use Rattle.gl_desk.specs.Limits.{most_bytes}
use Rattle.gl_words.specs.Words.{ReplayWords}
use Rattle.gl_answer.specs.FileTests.{FileTest, IsRecordingOf, Kind, Listed, RecordingText, text_tests}
use Rattle.gl_answer.specs.declared.refusal.Cause.{Cause}
use Rattle.gl_answer.specs.declared.refusal.Cause.TheVariants.{TooManySteps, WrongStep}

-- why a text is no schedule
abbrev pub schedule_cause : StepError → Option Cause
schedule_cause (step.Line line) = Some (WrongStep line)
schedule_cause step.TooMany = Some TooManySteps
schedule_cause step.Memory = None

-- a schedule
abbrev pub ScheduleText : Kind
ScheduleText = record {
  IsText = λ text. (steps : List Step) × IsSchedule text steps;
  IsNoText = λ text cause.
      (error : StepError) × IsRefused text error × (schedule_cause error ≡ Some cause);
}

-- what is seen of the two files
pub record ReplaySeen : Type 0 where
  pub flight : Option (List ℕ)
  pub schedule : Option (List ℕ)

abbrev pub IsReplaySeen : ReplayWords → Option FilesByName → ReplaySeen → Type 0
IsReplaySeen words folder seen =
    IsSeenIn folder words.flight seen.flight × IsSeenIn folder words.schedule seen.schedule

-- The recording is listed, and the schedule is; then the recording, and then the schedule.
abbrev pub replay_tests : ReplayWords → ReplaySeen → List FileTest
replay_tests words seen =
    Listed words.flight seen.flight ∷ Listed words.schedule seen.schedule
    ∷ (text_tests (RecordingText None) most_bytes words.flight seen.flight
    ++ text_tests ScheduleText most_bytes words.schedule seen.schedule)

-- a text has these steps
abbrev pub AreStepsOf : List ℕ → Vec Step Global → Type 0
AreStepsOf text steps = IsSchedule text steps.items

-- this recording and these steps were read
abbrev pub AreReplayRead : ReplaySeen → Recording × Vec Step Global → Type 0
AreReplayRead seen read =
    IsSomeAnd seen.flight (λ text. IsRecordingOf None text read.0)
    × IsSomeAnd seen.schedule (λ text. AreStepsOf text read.1)
