-- The tests of the files of `badge` and `badgecheck`, one after the other.
use Rattle.std.proofs.Common.{refl, ap, ℕ, inl, inr, List, Option, None, Some, Result, Ok, Err}
use Rattle.std.specs.Prelude.{Contains, IsSomeAnd}
use Rattle.gl_desk.specs.Desk.{FilesByName, HasFile, ListsNames}
use Rattle.gl_igc.specs.declared.recording.Recording.{Recording}
use Rattle.gl_desk.specs.Limits.{most_bytes}
use Rattle.gl_words.specs.Words.{BadgeWords}
use Rattle.gl_answer.specs.declared.halt.Halt.{Halt}
use Rattle.gl_answer.specs.declared.halt.Halt.TheVariants.{Refused, Stopped}
use Rattle.gl_answer.specs.declared.refusal.Refusal.{Refusal}
use Rattle.gl_flights.specs.BadgeFiles.{BadgeSeen, HasTestedFlight, IsBadgeRead, IsBadgeSeen, badge_check_tests, badge_tests}
use Rattle.gl_answer.specs.ReadFiles.{HasReadFile, IsNeeded, IsUnused}
use Rattle.gl_answer.specs.FileTests.{HasTested, IsRecordingOf, ProofText, RecordingText, most_proof_bytes, text_tests}
use Rattle.gl_answer.proofs.Listing.{is_listed, not_listed, seen_some}
use Rattle.gl_answer.proofs.FileTests.{AreDecided, all_pass, fails_behind, fails_in_front, proof_decided, recording_decided, some_text_fails, some_text_passes}
use Rattle.gl_desk.proofs.DeskLemmas.{HasFile-from_names}

-- `badge`: the recording isn't listed
pub flight_missing : (folder : Option FilesByName) (names : List (List ℕ)) (words : BadgeWords) (halt : Halt) → ListsNames folder names → IsNeeded names words.flight (Err halt)
    → HasTested (IsBadgeSeen words folder) (badge_tests words) IsBadgeRead (Err halt)
flight_missing folder names words (Refused refusal) lists (none, same) =
    let proof = seen_some folder words.proof in (
      record { flight = None; proof = proof.0 },
      record { flight = not_listed folder names words.flight lists none; proof = proof.1 },
      inl (ap (λ (r : Refusal). r.file) same, (refl, ap (λ (r : Refusal). r.cause) same)),
    )
flight_missing folder names words (Stopped stop) lists needed = tt

-- it is, and the proof is there already
pub proof_listed : (folder : Option FilesByName) (names : List (List ℕ)) (words : BadgeWords) (halt : Halt) → ListsNames folder names → HasFile folder words.flight
    → IsUnused names words.proof (Err halt) → HasTested (IsBadgeSeen words folder) (badge_tests words) IsBadgeRead (Err halt)
proof_listed folder names words (Refused refusal) lists flight (listed, same) =
    let bytes = is_listed folder words.flight flight in
    let proof = is_listed folder words.proof (HasFile-from_names folder names words.proof lists listed) in (
      record { flight = Some bytes.0; proof = Some proof.0 },
      record { flight = bytes.1; proof = proof.1 },
      inr (refl, inl (ap (λ (r : Refusal). r.file) same, (refl, ap (λ (r : Refusal). r.cause) same))),
    )
proof_listed folder names words (Stopped stop) lists flight used = tt

-- the recording was read, or refused
pub badge_tested : (folder : Option FilesByName) (names : List (List ℕ)) (words : BadgeWords) (result : Result Recording Halt) → ListsNames folder names → ¬ Contains names words.proof
    → HasReadFile (RecordingText None) most_bytes folder words.flight (IsRecordingOf None) result → HasTested (IsBadgeSeen words folder) (badge_tests words) IsBadgeRead result
badge_tested folder names words (Ok recording) lists new (seen, is, passes, reads) = (
  record { flight = seen; proof = None },
  record { flight = is; proof = not_listed folder names words.proof lists new },
  (some_text_passes (RecordingText None) most_bytes words.flight seen passes, (refl, passes)),
  reads,
)
badge_tested folder names words (Err (Refused refusal)) lists new (seen, is, fails) = (
  record { flight = seen; proof = None },
  record { flight = is; proof = not_listed folder names words.proof lists new },
  inr (some_text_fails (RecordingText None) most_bytes words.flight seen refusal fails, inr (refl, fails)),
)
badge_tested folder names words (Err (Stopped stop)) lists new read = tt

-- `badgecheck`: the recording isn't listed
pub check_flight_missing : (folder : Option FilesByName) (names : List (List ℕ)) (words : BadgeWords) (halt : Halt) → ListsNames folder names → IsNeeded names words.flight (Err halt)
    → HasTestedFlight folder words (Err halt)
check_flight_missing folder names words (Refused refusal) lists (none, same) =
    let proof = seen_some folder words.proof in (
      record { flight = None; proof = proof.0 },
      record { flight = not_listed folder names words.flight lists none; proof = proof.1 },
      inl (ap (λ (r : Refusal). r.file) same, (refl, ap (λ (r : Refusal). r.cause) same)),
    )
check_flight_missing folder names words (Stopped stop) lists needed = tt

-- it is, and the proof isn't
pub proof_missing : (folder : Option FilesByName) (names : List (List ℕ)) (words : BadgeWords) (halt : Halt) → ListsNames folder names → HasFile folder words.flight
    → IsNeeded names words.proof (Err halt) → HasTestedFlight folder words (Err halt)
proof_missing folder names words (Refused refusal) lists flight (none, same) =
    let bytes = is_listed folder words.flight flight in (
      record { flight = Some bytes.0; proof = None },
      record { flight = bytes.1; proof = not_listed folder names words.proof lists none },
      inr (refl, inl (ap (λ (r : Refusal). r.file) same, (refl, ap (λ (r : Refusal). r.cause) same))),
    )
proof_missing folder names words (Stopped stop) lists flight needed = tt

-- both are, and the recording was read, or refused
pub flight_tested : (folder : Option FilesByName) (words : BadgeWords) (result : Result Recording Halt) → HasFile folder words.proof
    → HasReadFile (RecordingText None) most_bytes folder words.flight (IsRecordingOf None) result → HasTestedFlight folder words result
flight_tested folder words (Ok recording) there read = read
flight_tested folder words (Err (Refused refusal)) there (seen, is, fails) =
    let proof = is_listed folder words.proof there in
    let first = text_tests (RecordingText None) most_bytes words.flight seen in
    let then = text_tests ProofText most_proof_bytes words.proof (Some proof.0) in (
      record { flight = seen; proof = Some proof.0 },
      record { flight = is; proof = proof.1 },
      inr (some_text_fails (RecordingText None) most_bytes words.flight seen refusal fails, inr (refl, fails_in_front first then refusal fails)),
    )
flight_tested folder words (Err (Stopped stop)) there read = tt

-- it was read, and so the proof is tested
pub proof_tested : {X : Type 0} (folder : Option FilesByName) (words : BadgeWords) (recording : Recording) (result : Result X Halt) (IsOf : List ℕ → X → Type 0)
    → HasTestedFlight folder words (Ok recording) → HasReadFile ProofText most_proof_bytes folder words.proof IsOf result
    → HasTested (IsBadgeSeen words folder) (badge_check_tests words) (λ seen x. IsBadgeRead seen recording × IsSomeAnd seen.proof (λ text. IsOf text x)) result
proof_tested folder words recording (Ok x) IsOf (seen, is, passes, reads) (proof, there, pass, are) =
    let first = text_tests (RecordingText None) most_bytes words.flight seen in
    let then = text_tests ProofText most_proof_bytes words.proof proof in (
      record { flight = seen; proof = proof },
      record { flight = is; proof = there },
      (some_text_passes (RecordingText None) most_bytes words.flight seen passes, (some_text_passes ProofText most_proof_bytes words.proof proof pass, all_pass first then passes pass)),
      (reads, are),
    )
proof_tested folder words recording (Err (Refused refusal)) IsOf (seen, is, passes, reads) (proof, there, fails) =
    let first = text_tests (RecordingText None) most_bytes words.flight seen in
    let then = text_tests ProofText most_proof_bytes words.proof proof in (
      record { flight = seen; proof = proof },
      record { flight = is; proof = there },
      inr (
        some_text_passes (RecordingText None) most_bytes words.flight seen passes,
        inr (some_text_fails ProofText most_proof_bytes words.proof proof refusal fails, fails_behind first then refusal passes fails),
      ),
    )
proof_tested folder words recording (Err (Stopped stop)) IsOf read proof = tt

-- no test of `badge` and none of `badgecheck` passes and fails
pub badge_decided : (words : BadgeWords) (seen : BadgeSeen) → AreDecided (badge_tests words seen)
badge_decided words seen = (tt, (tt, (tt, (recording_decided None, tt))))

pub badge_check_decided : (words : BadgeWords) (seen : BadgeSeen) → AreDecided (badge_check_tests words seen)
badge_check_decided words seen = (tt, (tt, (tt, (recording_decided None, (tt, (proof_decided, tt))))))
