-- What is said of a proof's file whose lines came one by one.
use Rattle.std.proofs.Common.{◌≡◌, ap, inl, inr, subst, sym, ℕ, ◌≤◌, List, length, Option, Some, Result, Ok, Err}
use Rattle.std.specs.Prelude.{IsErrAnd}
use Rattle.gl_answer.specs.FileTests.{Kind, most_proof_bytes}
use Rattle.gl_answer.specs.Halts.{AreBytes, RefusesFor}
use Rattle.gl_answer.specs.ReadFiles.{HasRead, HasReadFile}
use Rattle.gl_answer.specs.declared.halt.Halt.{Halt}
use Rattle.gl_answer.specs.declared.halt.Halt.TheVariants.{Refused, Stopped}
use Rattle.gl_answer.specs.declared.refusal.Cause.{Cause}
use Rattle.gl_answer.specs.declared.refusal.Refusal.{Refusal}
use Rattle.gl_answer.proofs.FileTests.{text_refused}
use Rattle.gl_desk.specs.Desk.{FilesByName, IsSeenIn}
use Rattle.gl_near.proofs.Parsed.{told_of_near}
use Rattle.gl_near.specs.NearLines.{near_rules}
use Rattle.gl_near.specs.Pairing.{Pairing}
use Rattle.gl_near.specs.Verdict.{IsTextChecked}
use Rattle.gl_near.specs.declared.answer.NearVerdict.{NearVerdict}
use Rattle.gl_proof.specs.LineRules.{IsTextRefused}
use Rattle.gl_proof.specs.declared.error.ProofError.{ProofError}
use Rattle.gl_flights.specs.NearFiles.{NearProofText, near_proof_cause}

-- the whole text of a file was read
whole_read : {X : Type 0} (kind : Kind) (most : ℕ) (folder : Option FilesByName) (file text : List ℕ) (IsOf : List ℕ → X → Type 0) (result : Result X Halt) → IsSeenIn folder file (Some text)
    → length text ≤ most → HasRead kind file text IsOf result → HasReadFile kind most folder file IsOf result
whole_read kind most folder file text IsOf (Ok x) seen fits is = (Some text, seen, (fits, (is.0, tt)), is.1)
whole_read kind most folder file text IsOf (Err (Refused refusal)) seen fits is = (Some text, seen, inr (fits, inl is))
whole_read kind most folder file text IsOf (Err (Stopped stop)) seen fits is = tt

-- its claim was checked
pub file_checked : (folder : Option FilesByName) (file text : List ℕ) (pairing : Pairing) (verdict : NearVerdict) → IsSeenIn folder file (Some text) → length text ≤ most_proof_bytes
    → IsTextChecked pairing text verdict → HasReadFile NearProofText most_proof_bytes folder file (IsTextChecked pairing) (Ok verdict)
file_checked folder file text pairing verdict seen fits is =
    whole_read NearProofText most_proof_bytes folder file text (IsTextChecked pairing) (Ok verdict) seen fits ((is.0, is.1, is.2), is)

-- or it is none
pub file_refused : (folder : Option FilesByName) (file text : List ℕ) (pairing : Pairing) (error : ProofError) (cause : Option Cause) (halt : Halt) → IsSeenIn folder file (Some text)
    → length text ≤ most_proof_bytes → IsTextRefused near_rules text error → cause ≡ near_proof_cause error → RefusesFor file cause halt → HasReadFile NearProofText most_proof_bytes folder file
    (IsTextChecked pairing) (Err halt)
file_refused folder file text pairing error cause halt seen fits told because refuses =
    whole_read NearProofText most_proof_bytes folder file text (IsTextChecked pairing) (Err halt) seen fits
    (text_refused NearProofText file text (near_proof_cause error) halt (IsTextChecked pairing) (λ why same. (error, told_of_near text error told, same))
    (subst (λ (c : Option Cause). RefusesFor file c halt) because refuses))

-- a file that isn't read to its end is refused, or nothing is said of it
pub file_unread : (folder : Option FilesByName) (file : List ℕ) (pairing : Pairing) (halt : Halt) (result : Result NearVerdict Halt) → IsErrAnd result (λ handed. handed ≡ halt)
    → AreBytes folder file most_proof_bytes (Err halt) → HasReadFile NearProofText most_proof_bytes folder file (IsTextChecked pairing) result
file_unread folder file pairing halt (Ok verdict) is bytes = absurd is
file_unread folder file pairing halt (Err handed) is bytes =
    subst (λ (h : Halt). HasReadFile {X = NearVerdict} NearProofText most_proof_bytes folder file (IsTextChecked pairing) (Err h)) (sym is) (unread halt bytes) where
      unread : (halt : Halt) → AreBytes folder file most_proof_bytes (Err halt) → HasReadFile {X = NearVerdict} NearProofText most_proof_bytes folder file (IsTextChecked pairing) (Err halt)
      unread (Refused refusal) (longer, same) = (Some longer.0, longer.2, inl (ap (λ (r : Refusal). r.file) same, (longer.1, ap (λ (r : Refusal). r.cause) same)))
      unread (Stopped stop) bytes = tt
