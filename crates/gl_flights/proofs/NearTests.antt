-- The tests of the files of `near` and `nearcheck`, one after the other.
use Rattle.std.proofs.Common.{◌≡◌, ◌∙◌, refl, sym, ap, subst, ℕ, ℤ, inl, inr, List, ◌∷◌, ◌++◌, Option, None, Some, Result, Ok, Err}
use Rattle.std.specs.Prelude.{Contains, IsSomeAnd}
use Rattle.gl_desk.specs.Desk.{FilesByName, HasFile, ListsNames}
use Rattle.gl_igc.specs.declared.recording.Recording.{Recording}
use Rattle.gl_near.proofs.Reading as near
use Rattle.gl_near.specs.Verdict.{IsTextChecked}
use Rattle.gl_near.specs.declared.answer.NearVerdict.{NearVerdict}
use Rattle.gl_desk.specs.Limits.{most_bytes}
use Rattle.gl_words.specs.Words.{NearWords}
use Rattle.gl_answer.specs.declared.halt.Halt.{Halt}
use Rattle.gl_answer.specs.declared.halt.Halt.TheVariants.{Refused, Stopped}
use Rattle.gl_answer.specs.declared.refusal.Cause.{Cause}
use Rattle.gl_answer.specs.declared.refusal.Refusal.{Refusal}
use Rattle.gl_answer.specs.FileTests.{AllPass, FileTest, FirstFails, HasTested, IsRecordingOf, Listed, Passes, RecordingText, Unlisted, most_proof_bytes, text_tests}
use Rattle.gl_answer.specs.ReadFiles.{AreNeeded, HasReadFile, IsNeeded, IsUnused}
use Rattle.gl_flights.specs.Code.NearFiles.{AreFlightsSeen, flights_tests}
use Rattle.gl_flights.specs.Near.{IsNearVerdict, pairs_of}
use Rattle.gl_flights.specs.NearFiles.{AreNearRead, IsNearSeen, NearProofText, NearSeen, day_of, day_read, near_check_tests, near_proof_cause, near_tests, recording_tests}
use Rattle.gl_answer.proofs.Listing.{is_listed, not_listed, seen_some}
use Rattle.gl_answer.proofs.FileTests.{AreDecided, IsDecided, all_pass, fails_behind, fails_in_front, recording_decided, some_text_fails, some_text_passes}
use Rattle.gl_desk.proofs.DeskLemmas.{HasFile-from_names}

-- the day of a recording that was read
day_is : (seen : Option (List ℕ)) (recording : Recording) → IsSomeAnd seen (λ text. IsRecordingOf None text recording) → day_of seen ≡ Some recording.date
day_is None recording reads = absurd reads
day_is (Some text) recording reads = ap day_read reads

-- the first recording was refused
pub first_refused : (folder : Option FilesByName) (words : NearWords) (halt : Halt) → HasFile folder words.other
    → HasReadFile {X = Recording} (RecordingText None) most_bytes folder words.flight (IsRecordingOf None) (Err halt)
    → HasTested (AreFlightsSeen words folder) (flights_tests words) AreNearRead (Err halt)
first_refused folder words (Refused refusal) there (seen, is, fails) =
    let other = is_listed folder words.other there in
    let first = text_tests (RecordingText None) most_bytes words.flight seen in
    let then = text_tests (RecordingText (day_of seen)) most_bytes words.other (Some other.0) in (
      record { flight = seen; other = Some other.0; proof = None },
      (is, other.1),
      inr (some_text_fails (RecordingText None) most_bytes words.flight seen refusal fails, inr (refl, fails_in_front first then refusal fails)),
    )
first_refused folder words (Stopped stop) there read = tt

-- the other one was
pub other_refused : (folder : Option FilesByName) (words : NearWords) (recording : Recording) (halt : Halt)
    → HasReadFile (RecordingText None) most_bytes folder words.flight (IsRecordingOf None) (Ok recording)
    → HasReadFile {X = Recording} (RecordingText (Some recording.date)) most_bytes folder words.other (IsRecordingOf (Some recording.date)) (Err halt)
    → HasTested (AreFlightsSeen words folder) (flights_tests words) AreNearRead (Err halt)
other_refused folder words recording (Refused refusal) (seen, is, passes, reads) (other, are, fails) =
    let first = text_tests (RecordingText None) most_bytes words.flight seen in
    let then = text_tests (RecordingText (day_of seen)) most_bytes words.other other in
    let wrong = subst (λ (day : Option ℤ). FirstFails (text_tests (RecordingText day) most_bytes words.other other) refusal) (sym (day_is seen recording reads)) fails in (
      record { flight = seen; other = other; proof = None },
      (is, are),
      inr (
        some_text_passes (RecordingText None) most_bytes words.flight seen passes,
        inr (some_text_fails (RecordingText (Some recording.date)) most_bytes words.other other refusal fails, fails_behind first then refusal passes wrong),
      ),
    )
other_refused folder words recording (Stopped stop) read other = tt

-- both were read
pub both_flights : (folder : Option FilesByName) (words : NearWords) (recording second : Recording)
    → HasReadFile (RecordingText None) most_bytes folder words.flight (IsRecordingOf None) (Ok recording)
    → HasReadFile (RecordingText (Some recording.date)) most_bytes folder words.other (IsRecordingOf (Some recording.date)) (Ok second)
    → HasTested (AreFlightsSeen words folder) (flights_tests words) AreNearRead (Ok (recording, second))
both_flights folder words recording second (seen, is, passes, reads) (other, are, pass, read) =
    let first = text_tests (RecordingText None) most_bytes words.flight seen in
    let then = text_tests (RecordingText (day_of seen)) most_bytes words.other other in
    let fits = subst (λ (day : Option ℤ). AllPass (text_tests (RecordingText day) most_bytes words.other other)) (sym (day_is seen recording reads)) pass in (
      record { flight = seen; other = other; proof = None },
      (is, are),
      (
        some_text_passes (RecordingText None) most_bytes words.flight seen passes,
        (some_text_passes (RecordingText (Some recording.date)) most_bytes words.other other pass, all_pass first then passes fits),
      ),
      record { flight = reads; other = read },
    )

-- the first recording isn't listed, whatever tests come behind
first_missing : {X : Type 0} (rest : NearSeen → List FileTest) (AreRead : NearSeen → X → Type 0) (folder : Option FilesByName) (names : List (List ℕ)) (words : NearWords) (halt : Halt)
    → ListsNames folder names → IsNeeded names words.flight (Err halt) → HasTested (IsNearSeen words folder)
    (λ seen. Listed words.flight seen.flight ∷ Listed words.other seen.other ∷ rest seen) AreRead (Err halt)
first_missing rest AreRead folder names words (Refused refusal) lists (none, same) =
    let other = seen_some folder words.other in
    let proof = seen_some folder words.proof in (
      record { flight = None; other = other.0; proof = proof.0 },
      record { flight = not_listed folder names words.flight lists none; other = other.1; proof = proof.1 },
      inl (ap (λ (r : Refusal). r.file) same, (refl, ap (λ (r : Refusal). r.cause) same)),
    )
first_missing rest AreRead folder names words (Stopped stop) lists needed = tt

-- the other one isn't
other_missing : {X : Type 0} (rest : NearSeen → List FileTest) (AreRead : NearSeen → X → Type 0) (folder : Option FilesByName) (names : List (List ℕ)) (words : NearWords) (halt : Halt)
    → ListsNames folder names → HasFile folder words.flight → IsNeeded names words.other (Err halt)
    → HasTested (IsNearSeen words folder) (λ seen. Listed words.flight seen.flight ∷ Listed words.other seen.other ∷ rest seen) AreRead (Err halt)
other_missing rest AreRead folder names words (Refused refusal) lists there (none, same) =
    let flight = is_listed folder words.flight there in
    let proof = seen_some folder words.proof in (
      record { flight = Some flight.0; other = None; proof = proof.0 },
      record { flight = flight.1; other = not_listed folder names words.other lists none; proof = proof.1 },
      inr (refl, inl (ap (λ (r : Refusal). r.file) same, (refl, ap (λ (r : Refusal). r.cause) same))),
    )
other_missing rest AreRead folder names words (Stopped stop) lists there needed = tt

-- one of the two isn't
pub flight_missing : {X : Type 0} (rest : NearSeen → List FileTest) (AreRead : NearSeen → X → Type 0) (folder : Option FilesByName) (names : List (List ℕ)) (words : NearWords) (halt : Halt)
    → ListsNames folder names → AreNeeded names words.flight words.other (Err halt) → HasTested (IsNearSeen words folder)
    (λ seen. Listed words.flight seen.flight ∷ Listed words.other seen.other ∷ rest seen) AreRead (Err halt)
flight_missing rest AreRead folder names words halt lists (inl flight) = first_missing rest AreRead folder names words halt lists flight
flight_missing rest AreRead folder names words halt lists (inr (flight, other)) =
    other_missing rest AreRead folder names words halt lists (HasFile-from_names folder names words.flight lists flight) other

-- the proof of `near` is there already
pub proof_listed : (folder : Option FilesByName) (names : List (List ℕ)) (words : NearWords) (halt : Halt) → ListsNames folder names → HasFile folder words.flight → HasFile folder words.other
    → IsUnused names words.proof (Err halt) → HasTested (IsNearSeen words folder) (near_tests words) AreNearRead (Err halt)
proof_listed folder names words (Refused refusal) lists flight other (listed, same) =
    let one = is_listed folder words.flight flight in
    let two = is_listed folder words.other other in
    let proof = is_listed folder words.proof (HasFile-from_names folder names words.proof lists listed) in (
      record { flight = Some one.0; other = Some two.0; proof = Some proof.0 },
      record { flight = one.1; other = two.1; proof = proof.1 },
      inr (refl, inr (refl, inl (ap (λ (r : Refusal). r.file) same, (refl, ap (λ (r : Refusal). r.cause) same)))),
    )
proof_listed folder names words (Stopped stop) lists flight other used = tt

-- the proof of `nearcheck` isn't there
pub proof_missing : (folder : Option FilesByName) (names : List (List ℕ)) (words : NearWords) (halt : Halt) → ListsNames folder names → HasFile folder words.flight → HasFile folder words.other
    → IsNeeded names words.proof (Err halt) → HasTested (IsNearSeen words folder) (near_check_tests words) (IsNearVerdict words) (Err halt)
proof_missing folder names words (Refused refusal) lists flight other (none, same) =
    let one = is_listed folder words.flight flight in
    let two = is_listed folder words.other other in (
      record { flight = Some one.0; other = Some two.0; proof = None },
      record { flight = one.1; other = two.1; proof = not_listed folder names words.proof lists none },
      inr (refl, inr (refl, inl (ap (λ (r : Refusal). r.file) same, (refl, ap (λ (r : Refusal). r.cause) same)))),
    )
proof_missing folder names words (Stopped stop) lists flight other needed = tt

-- a further test behind those that the files are listed
further : (test : FileTest) (first other : FileTest) (rest : List FileTest) (refusal : Refusal) → Passes test → FirstFails (first ∷ other ∷ rest) refusal
    → FirstFails (first ∷ other ∷ test ∷ rest) refusal
further test first other rest refusal passes (inl fails) = inl fails
further test first other rest refusal passes (inr (one, inl fails)) = inr (one, inl fails)
further test first other rest refusal passes (inr (one, inr (two, fails))) = inr (one, inr (two, inr (passes, fails)))

-- tests behind others
longer : (tests more : List FileTest) (refusal : Refusal) (first other third : FileTest) → FirstFails (first ∷ other ∷ third ∷ tests) refusal
    → FirstFails (first ∷ other ∷ third ∷ (tests ++ more)) refusal
longer tests more refusal first other third fails = fails_in_front (first ∷ other ∷ third ∷ tests) more refusal fails

-- what was seen of the two recordings was read, for another proof
with_proof : (seen : NearSeen) (proof : Option (List ℕ)) (read : Recording × Recording) → AreNearRead seen read → AreNearRead (record { flight = seen.flight; other = seen.other; proof = proof }) read
with_proof seen proof read are = record { flight = are.flight; other = are.other }

-- `near`: the recordings were read, or refused
pub near_tested : (folder : Option FilesByName) (names : List (List ℕ)) (words : NearWords) (result : Result (Recording × Recording) Halt) → ListsNames folder names → ¬ Contains names words.proof
    → HasTested (AreFlightsSeen words folder) (flights_tests words) AreNearRead result → HasTested (IsNearSeen words folder) (near_tests words) AreNearRead result
near_tested folder names words (Ok read) lists new (seen, is, passes, are) = (
  record { flight = seen.flight; other = seen.other; proof = None },
  record { flight = is.0; other = is.1; proof = not_listed folder names words.proof lists new },
  (passes.0, (passes.1.0, (refl, passes.1.1))),
  with_proof seen None read are,
)
near_tested folder names words (Err (Refused refusal)) lists new (seen, is, fails) = (
  record { flight = seen.flight; other = seen.other; proof = None },
  record { flight = is.0; other = is.1; proof = not_listed folder names words.proof lists new },
  further (Unlisted words.proof None) (Listed words.flight seen.flight) (Listed words.other seen.other) (recording_tests words seen) refusal refl fails,
)
near_tested folder names words (Err (Stopped stop)) lists new tested = tt

-- `nearcheck`: the recordings were refused
pub near_check_refused : (folder : Option FilesByName) (words : NearWords) (halt : Halt) → HasFile folder words.proof
    → HasTested {X = Recording × Recording} (AreFlightsSeen words folder) (flights_tests words) AreNearRead (Err halt)
    → HasTested (IsNearSeen words folder) (near_check_tests words) (IsNearVerdict words) (Err halt)
near_check_refused folder words (Refused refusal) there (seen, is, fails) =
    let proof = is_listed folder words.proof there in
    let flight = Listed words.flight seen.flight in
    let other = Listed words.other seen.other in
    let listed = Listed words.proof (Some proof.0) in (
      record { flight = seen.flight; other = seen.other; proof = Some proof.0 },
      record { flight = is.0; other = is.1; proof = proof.1 },
      longer (recording_tests words seen) (text_tests NearProofText most_proof_bytes words.proof (Some proof.0)) refusal flight other listed
          (further listed flight other (recording_tests words seen) refusal refl fails),
    )
near_check_refused folder words (Stopped stop) there tested = tt

-- the recordings were read, and the proof was checked or refused
pub near_checked : (folder : Option FilesByName) (words : NearWords) (read : Recording × Recording) (result : Result NearVerdict Halt)
    → HasTested (AreFlightsSeen words folder) (flights_tests words) AreNearRead (Ok read)
    → HasReadFile NearProofText most_proof_bytes folder words.proof (IsTextChecked (pairs_of read words.seconds)) result
    → HasTested (IsNearSeen words folder) (near_check_tests words) (IsNearVerdict words) result
near_checked folder words read (Ok verdict) (seen, is, passes, are) (proof, there, pass, checked) =
    let more = text_tests NearProofText most_proof_bytes words.proof proof in (
      record { flight = seen.flight; other = seen.other; proof = proof },
      record { flight = is.0; other = is.1; proof = there },
      (passes.0, (passes.1.0, (some_text_passes NearProofText most_proof_bytes words.proof proof pass, all_pass (recording_tests words seen) more passes.1.1 pass))),
      (read, with_proof seen proof read are, checked),
    )
near_checked folder words read (Err (Refused refusal)) (seen, is, passes, are) (proof, there, fails) =
    let more = text_tests NearProofText most_proof_bytes words.proof proof in (
      record { flight = seen.flight; other = seen.other; proof = proof },
      record { flight = is.0; other = is.1; proof = there },
      inr (passes.0, inr (passes.1.0, inr (some_text_fails NearProofText most_proof_bytes words.proof proof refusal fails, fails_behind (recording_tests words seen) more refusal passes.1.1 fails))),
    )
near_checked folder words read (Err (Stopped stop)) flights checked = tt

-- no text is a proof of a closest approach and is refused
pub near_proof_decided : IsDecided NearProofText
near_proof_decided text cause (best, boxes, is) (error, told, why) =
    let e : ◌≡◌ {A = Option Cause} None (Some cause) = sym (ap near_proof_cause (near.text_refused text best boxes error is told)) ∙ why in cc

-- so no test of `near` and none of `nearcheck` passes and fails
pub near_decided : (words : NearWords) (seen : NearSeen) → AreDecided (near_tests words seen)
near_decided words seen = (tt, (tt, (tt, (tt, (recording_decided None, (tt, (recording_decided (day_of seen.flight), tt)))))))

pub near_check_decided : (words : NearWords) (seen : NearSeen) → AreDecided (near_check_tests words seen)
near_check_decided words seen =
    (tt, (tt, (tt, (tt, (recording_decided None, (tt, (recording_decided (day_of seen.flight), (tt, (near_proof_decided, tt)))))))))
