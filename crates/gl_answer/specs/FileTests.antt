-- The tests of a command's files: the first that fails refuses its file.
use Rattle.std.specs.Prelude.{◌≡◌, ℕ, ◌≤◌, ◌<◌, ◌⊎◌, ℤ, List, [], ◌∷◌, length, Option, None, Some, Result, Err, Ok, IsNone, IsSome, IsSomeAnd, ⊤}
use Rattle.gl_igc.specs.Reading.{Reading, recording_of}
use Rattle.gl_igc.specs.Recording.{reading_of}
use Rattle.gl_igc.specs.declared.recording.Recording.{Recording}
use Rattle.gl_igc.specs.declared.error.IgcError.{IgcError}
use Rattle.gl_igc.specs.declared.error.IgcError.TheVariants as igc
use Rattle.gl_proof.specs.declared.error.ProofError.{ProofError}
use Rattle.gl_proof.specs.declared.error.ProofError.TheVariants as proof
use Rattle.gl_proof.specs.Claim.{Statement}
use Rattle.gl_proof.specs.Refusal.{IsRefused}
use Rattle.gl_proof.specs.Text.{IsTextOf, statements_of}
use Rattle.gl_proof.specs.declared.proof.Proof.{Proof}
use Rattle.gl_proof.specs.declared.version.Version.{Version}
use Rattle.gl_answer.specs.declared.halt.Halt.{Halt}
use Rattle.gl_answer.specs.declared.halt.Halt.TheVariants.{Refused, Stopped}
use Rattle.gl_answer.specs.declared.refusal.Cause.{Cause}
use Rattle.gl_answer.specs.declared.refusal.Cause.TheVariants.{NoDate, NoFix, NoHeading, NotIgc, NotListed, ProofCut, TooLarge, TooManyFixes, WrongDay, WrongProof}
use Rattle.gl_answer.specs.declared.refusal.Cause.TheVariants as cause
use Rattle.gl_answer.specs.declared.refusal.Refusal.{Refusal}

-- What a text is to be: which texts are of the kind, and which aren't, for which cause. A kind
-- stands where the tests of its files do.
pub record Kind : Type 1 where
  pub IsText : List ℕ → Type 0
  pub IsNoText : List ℕ → Cause → Type 0

-- a text is of a kind
abbrev pub IsText : Kind → List ℕ → Type 0
IsText kind text = kind.IsText text

-- a text isn't of a kind, for this cause
abbrev pub IsNoText : Kind → List ℕ → Cause → Type 0
IsNoText kind text cause = kind.IsNoText text cause

-- why a text is no recording
abbrev pub recording_cause : IgcError → Option Cause
recording_cause igc.NotIgc = Some NotIgc
recording_cause igc.NoDate = Some NoDate
recording_cause (igc.WrongDay day) = Some WrongDay
recording_cause (igc.TooManyFixes line) = Some (TooManyFixes line)
recording_cause igc.NoFix = Some NoFix
recording_cause igc.Memory = None

-- a recording, by the day of a task if there is one
abbrev pub RecordingText : Option ℤ → Kind
RecordingText day = record {
  IsText = λ text. (reading : Reading) × (recording_of text day ≡ Ok reading);
  IsNoText = λ text cause.
      (error : IgcError) × (recording_of text day ≡ Err error) × (recording_cause error ≡ Some cause);
}

-- why a text is no proof
abbrev pub proof_cause : ProofError → Option Cause
proof_cause proof.Heading = Some NoHeading
proof_cause (proof.Line line) = Some (WrongProof line)
proof_cause proof.Cut = Some ProofCut
proof_cause proof.Memory = None

-- a proof
abbrev pub ProofText : Kind
ProofText = record {
  IsText = λ text.
      (version : Version) × (statements : List Statement) × IsTextOf version text statements;
  IsNoText = λ text cause.
      (error : ProofError) × IsRefused text error × (proof_cause error ≡ Some cause);
}

-- What is tested of a file, by what is seen of it, its bytes or that it isn't listed: that it is
-- listed, that it isn't, that it has at most so many bytes, and what its text is.
pub data FileTest : Type 1 where
  Listed : List ℕ → Option (List ℕ) → FileTest
  Unlisted : List ℕ → Option (List ℕ) → FileTest
  Small : ℕ → List ℕ → Option (List ℕ) → FileTest
  Reads : Kind → List ℕ → Option (List ℕ) → FileTest

-- the name of the file
abbrev pub file_of : FileTest → List ℕ
file_of (Listed file seen) = file
file_of (Unlisted file seen) = file
file_of (Small most file seen) = file
file_of (Reads kind file seen) = file

-- the test passes
abbrev pub Passes : FileTest → Type 0
Passes (Listed file seen) = IsSome seen
Passes (Unlisted file seen) = IsNone seen
Passes (Small most file seen) = IsSomeAnd seen (λ bytes. length bytes ≤ most)
Passes (Reads kind file seen) = IsSomeAnd seen (λ bytes. IsText kind bytes)

-- it fails for a cause
abbrev pub Fails : FileTest → Cause → Type 0
Fails (Listed file seen) why = IsNone seen × (why ≡ NotListed)
Fails (Unlisted file seen) why = IsSome seen × (why ≡ cause.Listed)
Fails (Small most file seen) why =
    IsSomeAnd seen (λ bytes. most < length bytes) × (why ≡ TooLarge)
Fails (Reads kind file seen) why = IsSomeAnd seen (λ bytes. IsNoText kind bytes why)

-- all of some tests pass
abbrev pub AllPass : List FileTest → Type 0
AllPass [] = ⊤
AllPass (test ∷ tests) = Passes test × AllPass tests

-- the first of some tests that fails refuses a file
abbrev pub FirstFails : List FileTest → Refusal → Type 0
FirstFails [] refusal = ⊥
FirstFails (test ∷ tests) refusal =
    ((refusal.file ≡ file_of test) × Fails test refusal.cause)
    ⊎ (Passes test × FirstFails tests refusal)

-- What the code's tests end with: they all pass and something was read, or the first that fails
-- refuses a file; what stops them says nothing of the files.
abbrev pub HasTested : {Seen X : Type 0} → (Seen → Type 0) → (Seen → List FileTest)
    → (Seen → X → Type 0) → Result X Halt → Type 0
HasTested IsSeen tests AreRead (Ok x) =
    (seen : _) × IsSeen seen × AllPass (tests seen) × AreRead seen x
HasTested IsSeen tests AreRead (Err (Refused refusal)) =
    (seen : _) × IsSeen seen × FirstFails (tests seen) refusal
HasTested IsSeen tests AreRead (Err (Stopped stop)) = ⊤

-- the most bytes that a proof may have; any other file has at most those of a recording
abbrev pub most_proof_bytes : ℕ
most_proof_bytes = 1_073_741_824

-- a text reads as this recording, by the day of a task if there is one
abbrev pub IsRecordingOf : Option ℤ → List ℕ → Recording → Type 0
IsRecordingOf day text recording = recording_of text day ≡ Ok (reading_of recording)

-- a text has this proof
abbrev pub IsProofOfText : List ℕ → Proof → Type 0
IsProofOfText text read = IsTextOf read.version text (statements_of read)

-- the tests of what stands in a file that is listed
abbrev pub text_tests : Kind → ℕ → List ℕ → Option (List ℕ) → List FileTest
text_tests kind most file seen = Small most file seen ∷ Reads kind file seen ∷ []
