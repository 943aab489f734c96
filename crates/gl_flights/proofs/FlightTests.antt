-- The tests of the file of one recording.
use Rattle.std.proofs.Common.{refl, ap, ℕ, inl, inr, List, Option, None, Ok, Err}
use Rattle.gl_desk.specs.Desk.{FilesByName, IsSeenIn, ListsNames}
use Rattle.gl_igc.specs.declared.recording.Recording.{Recording}
use Rattle.gl_desk.specs.Limits.{most_bytes}
use Rattle.gl_answer.specs.declared.halt.Halt.{Halt}
use Rattle.gl_answer.specs.declared.halt.Halt.TheVariants.{Refused, Stopped}
use Rattle.gl_answer.specs.declared.refusal.Refusal.{Refusal}
use Rattle.gl_answer.specs.ReadFiles.{HasReadFile, IsNeeded}
use Rattle.gl_answer.specs.FileTests.{HasTested, IsRecordingOf, RecordingText}
use Rattle.gl_flights.specs.FlightFile.{IsFlightRead, flight_tests}
use Rattle.gl_answer.proofs.Listing.{not_listed}
use Rattle.gl_answer.proofs.FileTests.{AreDecided, recording_decided, some_text_fails, some_text_passes}

-- the file isn't listed
pub file_missing : (folder : Option FilesByName) (names : List (List ℕ)) (file : List ℕ) (halt : Halt) → ListsNames folder names → IsNeeded names file (Err halt)
    → HasTested (λ seen. IsSeenIn folder file seen) (flight_tests file) IsFlightRead (Err halt)
file_missing folder names file (Refused refusal) lists (none, same) =
    (None, not_listed folder names file lists none, inl (ap (λ (r : Refusal). r.file) same, (refl, ap (λ (r : Refusal). r.cause) same)))
file_missing folder names file (Stopped stop) lists needed = tt

-- it is listed, and was read or refused
pub file_tested : (folder : Option FilesByName) (file : List ℕ) (result : _) → HasReadFile {X = Recording} (RecordingText None) most_bytes folder file (IsRecordingOf None) result
    → HasTested (λ seen. IsSeenIn folder file seen) (flight_tests file) IsFlightRead result
file_tested folder file (Ok recording) (seen, is, passes, reads) = (seen, is, (some_text_passes (RecordingText None) most_bytes file seen passes, passes), reads)
file_tested folder file (Err (Refused refusal)) (seen, is, fails) = (seen, is, inr (some_text_fails (RecordingText None) most_bytes file seen refusal fails, fails))
file_tested folder file (Err (Stopped stop)) read = tt

-- no test passes and fails
pub flight_decided : (file : List ℕ) (seen : Option (List ℕ)) → AreDecided (flight_tests file seen)
flight_decided file seen = (tt, (tt, (recording_decided None, tt)))
