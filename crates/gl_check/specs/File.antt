-- What a proof's file whose lines come one by one stands for.
use Rattle.std.specs.Prelude.{◌≡◌, ◌≢◌, ◌⊎◌, ℕ, ◌<◌, ◌≤◌, List, [], ◌∷◌, ◌++◌, length, Option, None, Some, All, Result, Ok, Err, ⊤}
use Rattle.gl_answer.specs.FileLines.{HasAllLines, HasLines}
use Rattle.gl_answer.specs.FileTests.{FirstFails, ProofText, text_tests}
use Rattle.gl_answer.specs.declared.file_state.FileLines.{FileLines}
use Rattle.gl_answer.specs.declared.halt.Halt.{Halt}
use Rattle.gl_answer.specs.declared.halt.Halt.TheVariants.{Refused, Stopped}
use Rattle.gl_check.specs.Verdict.{IsVerdict}
use Rattle.gl_check.specs.declared.claims_file.ClaimsFile.{ClaimsFile}
use Rattle.gl_check.specs.declared.verdict.Verdict.TheVariants.{Yes}
use Rattle.gl_check.specs.declared.file_said.ClaimSaid.{ClaimSaid}
use Rattle.gl_desk.specs.Desk.{FilesByName, IsSeenIn}
use Rattle.gl_goal.specs.Goal.{Goal, IsOptimum}
use Rattle.gl_proof.specs.Claim.{Statement}
use Rattle.gl_proof.specs.ClaimLines.{HasItsFixes, NoBoxFirst, lines_said}
use Rattle.gl_proof.specs.Line.{EndLine, Line}
use Rattle.gl_proof.specs.LineReading.{IsWhole, last_of}
use Rattle.gl_proof.specs.ProofLines.{is_ended, line_said, place_after, proof_rules}
use Rattle.gl_proof.specs.Text.{IsTextOf}
use Rattle.gl_proof.specs.declared.proof_place.ProofPlace.{ProofPlace}
use Rattle.gl_proof.specs.declared.said_line.ProofLine.{ProofLine}
use Rattle.gl_proof.specs.declared.said_line.ProofLine.TheVariants.{Claim}
use Rattle.gl_proof.specs.declared.version.Version.{Version}

-- the first bytes of a file were read, and gave these lines
abbrev pub GaveLines : Option FilesByName → List ℕ → ℕ → List Line → FileLines ProofPlace → Type 0
GaveLines folder file most said lines =
    (text : List ℕ) × HasLines proof_rules (λ last place. place ≡ place_after last) folder file most
    text said lines

-- the whole file was read, and gave these lines
abbrev pub GaveAll : Option FilesByName → List ℕ → ℕ → List Line → FileLines ProofPlace → Type 0
GaveAll folder file most said lines =
    HasAllLines proof_rules (λ last place. place ≡ place_after last) is_ended folder file most said
    lines

-- these lines were used, and the next one came, which is of no box, or none did
abbrev pub UsedLines : Option FilesByName → List ℕ → ℕ → List Line → Option ProofLine
    → FileLines ProofPlace → Type 0
UsedLines folder file most used None lines = GaveAll folder file most used lines
UsedLines folder file most used (Some line) lines =
    NoBoxFirst (line_said line ∷ [])
    × GaveLines folder file most (used ++ line_said line ∷ []) lines

-- the whole file was read, and its last line isn't the end
pub record BrokeOff (folder : Option FilesByName) (file : List ℕ) (most : ℕ)
    (lines : FileLines ProofPlace) : Type 0 where
  pub given : List Line
  pub all : GaveAll folder file most given lines
  pub unended : last_of given ≢ Some EndLine

-- the heading and the lines of these claims were used
pub record UsedClaims (folder : Option FilesByName) (file : List ℕ) (most : ℕ)
    (said : List Statement) (ahead : Option ProofLine) (lines : FileLines ProofPlace)
    : Type 0 where
  pub version : Version
  pub named : All HasItsFixes said
  pub used : UsedLines folder file most (lines_said version said []) ahead lines

-- these claims came so far, or the text broke off
abbrev pub CameSoFar : Option FilesByName → List ℕ → ℕ → List Statement → Option ProofLine
    → FileLines ProofPlace → Type 0
CameSoFar folder file most said ahead lines =
    (BrokeOff folder file most lines × (ahead ≡ None)) ⊎ UsedClaims folder file most said ahead lines

-- the file is the one of this name, of at most so many bytes, and these claims of it came so far
pub record HasSaid (folder : Option FilesByName) (file : List ℕ) (most : ℕ)
    (said : List Statement) (claims : ClaimsFile) : Type 0 where
  pub file_is : claims.file.now ≡ file
  pub most_is : claims.most ≡ most
  pub came : CameSoFar folder file most said claims.ahead claims.lines

-- what is left of the claims of a text: some where a claim comes next, and else none
abbrev pub Follows : Option ProofLine → List Statement → Type 0
Follows None others = others ≡ []
Follows (Some (Claim number kind total)) others = 0 < length others
Follows (Some line) others = others ≡ []

-- no claim comes next
abbrev pub NoneAhead : Option ProofLine → Type 0
NoneAhead ahead = (others : List Statement) → Follows ahead others → others ≡ []

-- this is left of the claims of a file
abbrev pub AreLeft : ClaimsFile → List Statement → Type 0
AreLeft claims others = Follows claims.ahead others

-- a claim comes next
abbrev pub HasClaimNext : ClaimsFile → Type 0
HasClaimNext claims = (others : List Statement) → AreLeft claims others → 0 < length others

-- none does
abbrev pub NoClaimNext : ClaimsFile → Type 0
NoClaimNext claims = NoneAhead claims.ahead

-- this is said of a statement by the rule of a goal
pub record IsClaimSaid (goal : Goal) (statement : Statement) (said : ClaimSaid) : Type 0 where
  pub number : said.number ≡ statement.number
  pub kind : said.kind ≡ statement.kind
  pub verdict : IsVerdict goal statement.total statement.fixes statement.boxes said.verdict
  pub optimum : said.verdict ≡ Yes → IsOptimum goal statement.total

-- a text is that of these claims and of those that are left behind this line
pub record IsBehind (said : List Statement) (ahead : Option ProofLine) (text : List ℕ)
    : Type 0 where
  pub version : Version
  pub others : List Statement
  pub is_text : IsTextOf version text (said ++ others)
  pub left : Follows ahead others

-- it is that of these claims and of those that are left of a file
abbrev pub IsTextBehind : List Statement → ClaimsFile → List ℕ → Type 0
IsTextBehind said claims text = IsBehind said claims.ahead text

-- a file that was read to its end has these lines, which are a whole text, or it is refused
abbrev pub IsWholeFile : Option FilesByName → List ℕ → ℕ → List Line → Result (Unit {0}) Halt
    → Type 0
IsWholeFile folder file most given (Ok whole) =
    (text : List ℕ) × IsSeenIn folder file (Some text) × (length text ≤ most)
    × IsWhole proof_rules text given
IsWholeFile folder file most given (Err (Refused refusal)) =
    (seen : Option (List ℕ)) × IsSeenIn folder file seen
    × FirstFails (text_tests ProofText most file seen) refusal
IsWholeFile folder file most given (Err (Stopped stop)) = ⊤
