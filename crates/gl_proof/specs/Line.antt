-- A line of a proof, and how it is spelled.
use Rattle.std.specs.Prelude.{ℕ, ◌^◌, ◌<◌, ◌≤◌, Bool, true, false, IsTrue, List, [], ◌∷◌, ◌++◌, length, map, Option, None, Some, IfSome, codes, All}
use Rattle.std.specs.Fmt.{decimal}
use Rattle.gl_box.specs.declared.closed.Why.{Why}
use Rattle.gl_box.specs.declared.closed.Why.TheVariants.{Disordered, Shut, Bound}
use Rattle.gl_proof.specs.Grammar.{Grammar}
pub use Rattle.gl_proof.specs.Words.{IsSpan, spaced, span_word, total_word}
use Rattle.gl_proof.specs.declared.claim.ClaimKind.{ClaimKind}
use Rattle.gl_proof.specs.declared.claim.ClaimKind.TheVariants.{Area, Out, Free, Triangle}
use Rattle.gl_proof.specs.declared.version.Version.{Version}
use Rattle.gl_proof.specs.declared.version.Version.TheVariants.{One, Two}
use Rattle.gl_text.specs.Forms.{is_number}

-- What a line says: that the text is a proof, and of which version; whose claim follows, of which
-- kind and of which total; the numbers of its fixes; a box, by which reason it is closed and its
-- spans; that the proof ends.
pub data Line : Type 0 where
  HeadingLine : Version → Line
  ClaimLine : List ℕ → ClaimKind → Option ℕ → Line
  FixLine : List ℕ → Line
  BoxLine : Why → List (ℕ × ℕ) → Line
  EndLine : Line

abbrev pub kind_word : ClaimKind → List ℕ
kind_word Area = codes "AREA"
kind_word Out = codes "OUT"
kind_word Free = codes "FREE"
kind_word Triangle = codes "TRIANGLE"

abbrev pub reason_word : Why → List ℕ
reason_word Disordered = codes "D"
reason_word Shut = codes "S"
reason_word Bound = codes "B"

-- the heading of a proof, which tells its version
abbrev pub heading : Version → List ℕ
heading One = codes "GLIDEPROOF 1"
heading Two = codes "GLIDEPROOF 2"

abbrev pub line_text : Line → List ℕ
line_text (HeadingLine version) = heading version
line_text (ClaimLine number kind total) =
    codes "CLAIM" ++ spaced (number ∷ kind_word kind ∷ total_word total ∷ [])
line_text (FixLine fixes) = codes "FIX" ++ spaced (map decimal fixes)
line_text (BoxLine why spans) = codes "BOX" ++ spaced (reason_word why ∷ map span_word spans)
line_text EndLine = codes "END"

-- a line with the LF, the byte 10, that ends it
abbrev pub ended : Line → List ℕ
ended line = line_text line ++ 10 ∷ []

-- the spans of a box: one for each of 1 to 10 axes
pub record AreSpans (spans : List (ℕ × ℕ)) : Type 0 where
  pub some : 1 ≤ length spans
  pub most : length spans ≤ 10
  pub each : All IsSpan spans

-- the numbers of the fixes of a claim with a total: 1 to 10, each of 32 bits
pub record AreFixes (fixes : List ℕ) : Type 0 where
  pub some : 1 ≤ length fixes
  pub most : length fixes ≤ 10
  pub each : All (λ fix. fix < 2 ^ 32) fixes

-- what can stand in a line
abbrev pub IsLine : Line → Type 0
IsLine (HeadingLine version) = Unit {0}
IsLine (ClaimLine number kind total) =
    IsTrue (is_number number) × IfSome total (λ greatest. greatest < 2 ^ 64)
IsLine (FixLine fixes) = AreFixes fixes
IsLine (BoxLine why spans) = AreSpans spans
IsLine EndLine = Unit {0}

-- what may stand behind the lines of a claim: another box of it, the next claim or the end
abbrev pub goes_on : Line → Bool
goes_on (HeadingLine version) = false
goes_on (ClaimLine number kind total) = true
goes_on (FixLine fixes) = false
goes_on (BoxLine why spans) = true
goes_on EndLine = true

-- Whether a line may stand right behind another one: behind the heading a claim or the end; behind
-- the line of a claim with a total its fixes, and behind each other line of a claim a box, the next
-- claim or the end; nothing behind the end.
abbrev pub may_follow : Line → Line → Bool
may_follow (HeadingLine version) (ClaimLine number kind total) = true
may_follow (HeadingLine version) EndLine = true
may_follow (HeadingLine version) other = false
may_follow (ClaimLine number kind None) next = goes_on next
may_follow (ClaimLine number kind (Some total)) (FixLine fixes) = true
may_follow (ClaimLine number kind (Some total)) other = false
may_follow (FixLine fixes) next = goes_on next
may_follow (BoxLine why spans) next = goes_on next
may_follow EndLine next = false

-- the lines of the proofs of a version, and how they follow each other: the versions differ in
-- their
-- heading alone
abbrev pub proof_grammar : Version → Grammar Line
proof_grammar version = record {
  spelling = line_text;
  IsLine = IsLine;
  may_follow = may_follow;
  heading = HeadingLine version;
  last = EndLine;
}
