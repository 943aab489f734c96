-- The files of `badge` and `badgecheck`: their tests in their order, and what they give.
use Rattle.std.specs.Prelude.{ℕ, List, ◌∷◌, ◌++◌, Option, None, Result, Ok, Err}
use Rattle.gl_desk.specs.Desk.{FilesByName, IsSeenIn}
use Rattle.gl_igc.specs.declared.recording.Recording.{Recording}
use Rattle.gl_desk.specs.Limits.{most_bytes}
use Rattle.gl_words.specs.Words.{BadgeWords}
use Rattle.gl_answer.specs.FileTests.{FileTest, HasTested, IsRecordingOf, Listed, ProofText, RecordingText, Unlisted, most_proof_bytes, text_tests}
use Rattle.gl_answer.specs.ReadFiles.{HasReadFile}
use Rattle.gl_answer.specs.declared.halt.Halt.{Halt}
use Rattle.gl_flights.specs.FlightFile.{IsFlightRead}

-- what is seen of the two files
pub record BadgeSeen : Type 0 where
  pub flight : Option (List ℕ)
  pub proof : Option (List ℕ)

pub record IsBadgeSeen (words : BadgeWords) (folder : Option FilesByName) (seen : BadgeSeen)
    : Type 0 where
  pub flight : IsSeenIn folder words.flight seen.flight
  pub proof : IsSeenIn folder words.proof seen.proof

-- The recording is listed, and the proof isn't; then the recording.
abbrev pub badge_tests : BadgeWords → BadgeSeen → List FileTest
badge_tests words seen =
    Listed words.flight seen.flight ∷ Unlisted words.proof seen.proof
    ∷ text_tests (RecordingText None) most_bytes words.flight seen.flight

-- Both are listed; then the recording, and then the proof.
abbrev pub badge_check_tests : BadgeWords → BadgeSeen → List FileTest
badge_check_tests words seen =
    Listed words.flight seen.flight ∷ Listed words.proof seen.proof
    ∷ (text_tests (RecordingText None) most_bytes words.flight seen.flight
    ++ text_tests ProofText most_proof_bytes words.proof seen.proof)

-- this recording was read
abbrev pub IsBadgeRead : BadgeSeen → Recording → Type 0
IsBadgeRead seen recording = IsFlightRead seen.flight recording

-- what the tests of `badgecheck` before that of the proof's text end with: the recording passes them
-- and was read, or the first that fails refuses its file
abbrev pub HasTestedFlight : Option FilesByName → BadgeWords → Result Recording Halt → Type 0
HasTestedFlight folder words (Ok recording) =
    HasReadFile (RecordingText None) most_bytes folder words.flight (IsRecordingOf None)
    (Ok recording)
HasTestedFlight folder words (Err halt) =
    HasTested {X = Recording} (IsBadgeSeen words folder) (badge_check_tests words)
    (λ seen recording. ⊥) (Err halt)
