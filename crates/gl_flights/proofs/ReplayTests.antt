-- The tests of the files of `replay`, one after the other.
use Rattle.std.proofs.Common.{◌≡◌, ◌∙◌, refl, sym, ap, ℕ, inl, inr, List, Option, None, Some, Ok, Err, Vec}
use Rattle.std.specs.declared.alloc.Global.{Global}
use Rattle.gl_desk.specs.Desk.{FilesByName, HasFile, ListsNames}
use Rattle.gl_igc.specs.declared.recording.Recording.{Recording}
use Rattle.gl_replay.proofs.StepLines.{schedule_told}
use Rattle.gl_replay.specs.declared.schedule.Step.{Step}
use Rattle.gl_desk.specs.Limits.{most_bytes}
use Rattle.gl_words.specs.Words.{ReplayWords}
use Rattle.gl_answer.specs.declared.halt.Halt.{Halt}
use Rattle.gl_answer.specs.declared.halt.Halt.TheVariants.{Refused, Stopped}
use Rattle.gl_answer.specs.declared.refusal.Cause.{Cause}
use Rattle.gl_answer.specs.declared.refusal.Refusal.{Refusal}
use Rattle.gl_answer.specs.ReadFiles.{AreNeeded, HasReadFile, IsNeeded}
use Rattle.gl_answer.specs.FileTests.{HasTested, IsRecordingOf, RecordingText, text_tests}
use Rattle.gl_flights.specs.ReplayFiles.{AreReplayRead, AreStepsOf, IsReplaySeen, ReplaySeen, ScheduleText, replay_tests, schedule_cause}
use Rattle.gl_answer.proofs.Listing.{is_listed, not_listed, seen_some}
use Rattle.gl_answer.proofs.FileTests.{AreDecided, IsDecided, all_pass, fails_behind, fails_in_front, recording_decided, some_text_fails, some_text_passes}
use Rattle.gl_desk.proofs.DeskLemmas.{HasFile-from_names}

-- the recording isn't listed: the first test
flight_missing : (folder : Option FilesByName) (names : List (List ℕ)) (words : ReplayWords) (halt : Halt)
    → ListsNames folder names → IsNeeded names words.flight (Err halt) → HasTested (IsReplaySeen words folder) (replay_tests words) AreReplayRead (Err halt)
flight_missing folder names words (Refused refusal) lists (none, same) =
    let schedule = seen_some folder words.schedule in (
      record { flight = None; schedule = schedule.0 },
      (not_listed folder names words.flight lists none, schedule.1),
      inl (ap (λ (r : Refusal). r.file) same, (refl, ap (λ (r : Refusal). r.cause) same)),
    )
flight_missing folder names words (Stopped stop) lists needed = tt

-- the recording is listed, and the schedule isn't
schedule_missing : (folder : Option FilesByName) (names : List (List ℕ)) (words : ReplayWords) (halt : Halt)
    → ListsNames folder names → HasFile folder words.flight → IsNeeded names words.schedule (Err halt) → HasTested (IsReplaySeen words folder) (replay_tests words) AreReplayRead (Err halt)
schedule_missing folder names words (Refused refusal) lists flight (none, same) =
    let bytes = is_listed folder words.flight flight in (
      record { flight = Some bytes.0; schedule = None },
      (bytes.1, not_listed folder names words.schedule lists none),
      inr (refl, inl (ap (λ (r : Refusal). r.file) same, (refl, ap (λ (r : Refusal). r.cause) same))),
    )
schedule_missing folder names words (Stopped stop) lists flight needed = tt

-- one of them isn't listed
pub file_missing : (folder : Option FilesByName) (names : List (List ℕ)) (words : ReplayWords) (halt : Halt) → ListsNames folder names
    → AreNeeded names words.flight words.schedule (Err halt) → HasTested (IsReplaySeen words folder) (replay_tests words) AreReplayRead (Err halt)
file_missing folder names words halt lists (inl flight) = flight_missing folder names words halt lists flight
file_missing folder names words halt lists (inr (flight, schedule)) = schedule_missing folder names words halt lists (HasFile-from_names folder names words.flight lists flight) schedule

-- both are listed, and the recording was refused
pub flight_refused : (folder : Option FilesByName) (words : ReplayWords) (halt : Halt)
    → HasFile folder words.schedule → HasReadFile {X = Recording} (RecordingText None) most_bytes folder words.flight (IsRecordingOf None) (Err halt)
    → HasTested (IsReplaySeen words folder) (replay_tests words) AreReplayRead (Err halt)
flight_refused folder words (Refused refusal) schedule (seen, is, fails) =
    let lines = is_listed folder words.schedule schedule in
    let first = text_tests (RecordingText None) most_bytes words.flight seen in
    let then = text_tests ScheduleText most_bytes words.schedule (Some lines.0) in (
      record { flight = seen; schedule = Some lines.0 },
      (is, lines.1),
      inr
          (some_text_fails (RecordingText None) most_bytes words.flight seen refusal fails, inr (refl, fails_in_front first then refusal fails)),
    )
flight_refused folder words (Stopped stop) schedule read = tt

-- both are listed, the recording passed, and the schedule was refused
pub steps_refused : (folder : Option FilesByName) (words : ReplayWords) (recording : Recording) (halt : Halt)
    → HasReadFile (RecordingText None) most_bytes folder words.flight (IsRecordingOf None) (Ok recording)
    → HasReadFile {X = Vec Step Global} ScheduleText most_bytes folder words.schedule AreStepsOf (Err halt)
    → HasTested (IsReplaySeen words folder) (replay_tests words) AreReplayRead (Err halt)
steps_refused folder words recording (Refused refusal) (seen, is, passes, reads) (lines, are, fails) =
    let first = text_tests (RecordingText None) most_bytes words.flight seen in
    let then = text_tests ScheduleText most_bytes words.schedule lines in (
      record { flight = seen; schedule = lines },
      (is, are),
      inr (
        some_text_passes (RecordingText None) most_bytes words.flight seen passes,
        inr (some_text_fails ScheduleText most_bytes words.schedule lines refusal fails, fails_behind first then refusal passes fails),
      ),
    )
steps_refused folder words recording (Stopped stop) read lines = tt

-- both are listed, and passed
pub both_read : (folder : Option FilesByName) (words : ReplayWords) (recording : Recording) (steps : Vec Step Global)
    → HasReadFile (RecordingText None) most_bytes folder words.flight (IsRecordingOf None) (Ok recording)
    → HasReadFile ScheduleText most_bytes folder words.schedule AreStepsOf (Ok steps)
    → HasTested (IsReplaySeen words folder) (replay_tests words) AreReplayRead (Ok (recording, steps))
both_read folder words recording steps (seen, is, passes, reads) (lines, are, pass, read) =
    let first = text_tests (RecordingText None) most_bytes words.flight seen in
    let then = text_tests ScheduleText most_bytes words.schedule lines in (
      record { flight = seen; schedule = lines },
      (is, are),
      (
        some_text_passes (RecordingText None) most_bytes words.flight seen passes,
        (some_text_passes ScheduleText most_bytes words.schedule lines pass, all_pass first then passes pass),
      ),
      (reads, read),
    )

-- no text is a schedule and is refused
pub schedule_decided : IsDecided ScheduleText
schedule_decided text cause (steps, is) (error, told, why) =
    let e : ◌≡◌ {A = Option Cause} None (Some cause) = sym (ap schedule_cause (schedule_told text steps error is told)) ∙ why in cc

-- so no test passes and fails
pub replay_decided : (words : ReplayWords) (seen : ReplaySeen) → AreDecided (replay_tests words seen)
replay_decided words seen = (tt, (tt, (tt, (recording_decided None, (tt, (schedule_decided, tt))))))
