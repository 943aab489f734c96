-- The files of `near` and `nearcheck`: their tests in their order, and what they give.
use Rattle.std.specs.Prelude.{◌≡◌, ℕ, ℤ, List, ◌∷◌, ◌++◌, Option, None, Some, Result, Ok, Err, IsSomeAnd}
use Rattle.gl_desk.specs.Desk.{FilesByName, IsSeenIn}
use Rattle.gl_igc.specs.Reading.{Reading, recording_of}
use Rattle.gl_igc.specs.declared.error.IgcError.{IgcError}
use Rattle.gl_igc.specs.declared.recording.Recording.{Recording}
use Rattle.gl_proof.specs.LineRefusal.{IsRefusal}
use Rattle.gl_proof.specs.declared.error.ProofError.{ProofError}
use Rattle.gl_proof.specs.declared.error.ProofError.TheVariants as proof
use Rattle.gl_near.specs.Line.{IsTextOf, near_grammar}
use Rattle.gl_near.specs.declared.found.NearBest.{NearBest}
use Rattle.gl_near.specs.declared.found.NearWhy.{NearWhy}
use Rattle.gl_desk.specs.Limits.{most_bytes}
use Rattle.gl_words.specs.Words.{NearWords}
use Rattle.gl_answer.specs.FileTests.{FileTest, IsRecordingOf, Kind, Listed, RecordingText, Unlisted, most_proof_bytes, text_tests}
use Rattle.gl_answer.specs.declared.refusal.Cause.{Cause}
use Rattle.gl_answer.specs.declared.refusal.Cause.TheVariants.{NearProofCut, NoNearHeading, WrongNearProof}

-- why a text is no proof of a closest approach
abbrev pub near_proof_cause : ProofError → Option Cause
near_proof_cause proof.Heading = Some NoNearHeading
near_proof_cause (proof.Line line) = Some (WrongNearProof line)
near_proof_cause proof.Cut = Some NearProofCut
near_proof_cause proof.Memory = None

-- a proof of a closest approach
abbrev pub NearProofText : Kind
NearProofText = record {
  IsText = λ text.
      (best : Option NearBest) × (boxes : List (List (ℕ × ℕ) × NearWhy)) × IsTextOf text best boxes;
  IsNoText = λ text cause.
      (error : ProofError) × IsRefusal near_grammar text error × (near_proof_cause error ≡ Some cause);
}

-- what is seen of the three files
pub record NearSeen : Type 0 where
  pub flight : Option (List ℕ)
  pub other : Option (List ℕ)
  pub proof : Option (List ℕ)

pub record IsNearSeen (words : NearWords) (folder : Option FilesByName) (seen : NearSeen)
    : Type 0 where
  pub flight : IsSeenIn folder words.flight seen.flight
  pub other : IsSeenIn folder words.other seen.other
  pub proof : IsSeenIn folder words.proof seen.proof

-- the day of a recording
abbrev pub day_read : Result Reading IgcError → Option ℤ
day_read (Ok reading) = Some reading.date
day_read (Err error) = None

abbrev pub day_of : Option (List ℕ) → Option ℤ
day_of None = None
day_of (Some text) = day_read (recording_of text None)

-- the two recordings: the other one is read by the day of the first
abbrev pub recording_tests : NearWords → NearSeen → List FileTest
recording_tests words seen =
    text_tests (RecordingText None) most_bytes words.flight seen.flight
    ++ text_tests (RecordingText (day_of seen.flight)) most_bytes words.other seen.other

-- Both recordings are listed, and the proof isn't; then the recordings, one after the other.
abbrev pub near_tests : NearWords → NearSeen → List FileTest
near_tests words seen =
    Listed words.flight seen.flight ∷ Listed words.other seen.other
    ∷ Unlisted words.proof seen.proof ∷ recording_tests words seen

-- All three are listed; then the recordings, one after the other, and then the proof.
abbrev pub near_check_tests : NearWords → NearSeen → List FileTest
near_check_tests words seen =
    Listed words.flight seen.flight ∷ Listed words.other seen.other
    ∷ Listed words.proof seen.proof ∷ (recording_tests words seen
    ++ text_tests NearProofText most_proof_bytes words.proof seen.proof)

-- these recordings were read
pub record AreNearRead (seen : NearSeen) (read : Recording × Recording) : Type 0 where
  pub flight : IsSomeAnd seen.flight (λ text. IsRecordingOf None text read.0)
  pub other : IsSomeAnd seen.other (λ text. IsRecordingOf (Some read.0.date) text read.1)
