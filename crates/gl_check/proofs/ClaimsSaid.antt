-- What is known of a proof's file as one value.
use Rattle.std.proofs.Common.{◌≡◌, ◌∙◌, refl, sym, subst, ℕ, List, [], ◌∷◌, ◌++◌, Option, None, Some, Result, Ok, Err}
use Rattle.std.specs.Prelude.{IsErrAnd, MatchOption}
use Rattle.gl_answer.specs.FileTests.{ProofText}
use Rattle.gl_answer.specs.ReadFiles.{HasReadFile}
use Rattle.gl_answer.specs.declared.file_state.FileLines.{FileLines}
use Rattle.gl_answer.specs.Halts.{AreBytes}
use Rattle.gl_answer.specs.declared.halt.Halt.{Halt}
use Rattle.gl_check.specs.File.{CameSoFar, GaveAll, GaveLines, HasSaid, IsClaimSaid, IsTextBehind, IsWholeFile, NoClaimNext, NoneAhead}
use Rattle.gl_check.proofs.FileEnds.{all_read, ended, unended, unread_file}
use Rattle.gl_check.specs.declared.claims_file.ClaimsFile.{ClaimsFile}
use Rattle.gl_check.specs.declared.file_said.ClaimSaid.{ClaimSaid}
use Rattle.gl_desk.specs.Desk.{FilesByName}
use Rattle.gl_goal.specs.Goal.{Goal}
use Rattle.gl_proof.specs.Claim.{Statement}
use Rattle.gl_proof.specs.Line.{Line}
use Rattle.gl_proof.specs.LineReading.{IsExhausted}
use Rattle.gl_proof.specs.ProofLines.{is_ended}
use Rattle.gl_proof.specs.declared.proof_place.ProofPlace.{ProofPlace}
use Rattle.gl_proof.specs.declared.said_line.ProofLine.{ProofLine}

-- the claims that came so far, by the name and the limit that the file itself has
pub came_here : (folder : Option FilesByName) (file : List ℕ) (most : ℕ) (said : List Statement) (claims : ClaimsFile) (ahead : Option ProofLine) → ahead ≡ claims.ahead
    → HasSaid folder file most said claims
    → CameSoFar folder claims.file.now claims.most said ahead claims.lines
came_here folder file most said claims ahead same has =
    subst (λ (o : Option ProofLine). CameSoFar folder claims.file.now claims.most said o claims.lines) (sym same)
    (subst (λ (m : ℕ). CameSoFar folder claims.file.now m said claims.ahead claims.lines) (sym has.most_is)
    (subst (λ (f : List ℕ). CameSoFar folder f most said claims.ahead claims.lines) (sym has.file_is) has.came))

-- and back
has_after : (folder : Option FilesByName) (file : List ℕ) (most : ℕ) (said more : List Statement) (claims after : ClaimsFile) → HasSaid folder file most said claims → after.file.now ≡ claims.file.now
    → after.most ≡ claims.most → CameSoFar folder claims.file.now claims.most more after.ahead after.lines → HasSaid folder file most more after
has_after folder file most said more claims after has same_file same_most came = record {
  file_is = same_file ∙ has.file_is;
  most_is = same_most ∙ has.most_is;
  came = subst (λ (m : ℕ). CameSoFar folder file m more after.ahead after.lines) has.most_is
      (subst (λ (f : List ℕ). CameSoFar folder f claims.most more after.ahead after.lines) has.file_is came);
}

-- a claim more came, or none did
pub said_next : (folder : Option FilesByName) (file : List ℕ) (most : ℕ) (said : List Statement) (claims after : ClaimsFile) (goal : Goal) (ahead : Option ProofLine)
    (found : Option ClaimSaid) → ahead ≡ claims.ahead
    → HasSaid folder file most said claims → after.file.now ≡ claims.file.now → after.most ≡ claims.most
    → ((said : List Statement) → CameSoFar folder claims.file.now claims.most said ahead claims.lines
    → MatchOption found (NoneAhead after.ahead × CameSoFar folder claims.file.now claims.most said after.ahead after.lines)
    (λ claim. (statement : Statement) × IsClaimSaid goal statement claim × CameSoFar folder claims.file.now claims.most (said ++ statement ∷ []) after.ahead after.lines))
    → MatchOption found (NoClaimNext after × HasSaid folder file most said after)
    (λ claim. (statement : Statement) × IsClaimSaid goal statement claim × HasSaid folder file most (said ++ statement ∷ []) after)
said_next folder file most said claims after goal ahead None same has same_file same_most next =
    let found = next said (came_here folder file most said claims ahead same has) in
    (found.0, has_after folder file most said said claims after has same_file same_most found.1)
said_next folder file most said claims after goal ahead (Some claim) same has same_file same_most next =
    let found = next said (came_here folder file most said claims ahead same has) in
    (found.0, found.1, has_after folder file most said (said ++ found.0 ∷ []) claims after has same_file same_most found.2)

-- or the command is stopped
pub said_halted : (folder : Option FilesByName) (file : List ℕ) (most : ℕ) (said : List Statement) (claims : ClaimsFile) (ahead : Option ProofLine) (halt : Halt) → ahead ≡ claims.ahead
    → HasSaid folder file most said claims → ((said : List Statement) → CameSoFar folder claims.file.now claims.most said ahead claims.lines → AreBytes folder claims.file.now claims.most (Err halt))
    → AreBytes folder file most (Err halt)
said_halted folder file most said claims ahead halt same has halted =
    subst (λ (m : ℕ). AreBytes folder file m (Err halt)) has.most_is
    (subst (λ (f : List ℕ). AreBytes folder f claims.most (Err halt)) has.file_is (halted said (came_here folder file most said claims ahead same has)))

-- the text of the claims that came so far was read to its end
pub end_said : (folder : Option FilesByName) (file : List ℕ) (most : ℕ) (said : List Statement) (claims : ClaimsFile) (after : FileLines ProofPlace) (result : Result (Unit {0}) Halt)
    → HasSaid folder file most said claims
    → MatchOption claims.ahead (after ≡ claims.lines)
    (λ line. (used : List Line) → GaveLines folder claims.file.now claims.most used claims.lines → (more : List Line) × GaveAll folder claims.file.now claims.most (used ++ more) after)
    → ((given : List Line) → GaveAll folder claims.file.now claims.most given after → IsWholeFile folder claims.file.now claims.most given result)
    → HasReadFile ProofText most folder file (λ text _. IsTextBehind said claims text) result
end_said folder file most said claims after result has read whole =
    subst (λ (m : ℕ). HasReadFile {X = Unit {0}} ProofText m folder file (λ text _. IsTextBehind said claims text) result) has.most_is
    (subst (λ (f : List ℕ). HasReadFile {X = Unit {0}} ProofText claims.most folder f (λ text _. IsTextBehind said claims text) result) has.file_is
    (ended folder claims.file.now claims.most said claims.ahead claims.lines after result (came_here folder file most said claims claims.ahead refl has) read whole))

-- or the command is stopped before
pub end_halted : (folder : Option FilesByName) (file : List ℕ) (most : ℕ) (said : List Statement) (claims : ClaimsFile) (halt : Halt) (result : Result (Unit {0}) Halt)
    → IsErrAnd result (λ handed. handed ≡ halt)
    → HasSaid folder file most said claims
    → MatchOption claims.ahead ⊥ (λ line. (used : List Line) → GaveLines folder claims.file.now claims.most used claims.lines → AreBytes folder claims.file.now claims.most (Err halt))
    → HasReadFile ProofText most folder file (λ text _. IsTextBehind said claims text) result
end_halted folder file most said claims halt (Ok x) is has halted = absurd is
end_halted folder file most said claims halt (Err handed) is has halted =
    let here = unended folder claims.file.now claims.most said claims.ahead claims.lines halt (came_here folder file most said claims claims.ahead refl has) halted in
    let bytes = subst (λ (m : ℕ). AreBytes folder file m (Err halt)) has.most_is (subst (λ (f : List ℕ). AreBytes folder f claims.most (Err halt)) has.file_is here) in
    subst (λ (h : Halt). HasReadFile {X = Unit {0}} ProofText most folder file (λ text _. IsTextBehind said claims text) (Err h)) (sym is)
    (unread_file {X = Unit {0}} folder file most (λ text _. IsTextBehind said claims text) halt bytes)

-- the file is read to its end then
pub end_read : (folder : Option FilesByName) (file : List ℕ) (most : ℕ) (said : List Statement) (claims : ClaimsFile) (after : FileLines ProofPlace) → HasSaid folder file most said claims
    → MatchOption claims.ahead (after ≡ claims.lines)
    (λ line. (used : List Line) → GaveLines folder claims.file.now claims.most used claims.lines → (more : List Line) × GaveAll folder claims.file.now claims.most (used ++ more) after)
    → IsExhausted is_ended after.reader
end_read folder file most said claims after has read =
    (all_read folder claims.file.now claims.most said claims.ahead claims.lines after (came_here folder file most said claims claims.ahead refl has) read).1.exhausted
