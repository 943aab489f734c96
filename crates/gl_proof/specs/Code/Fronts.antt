-- What stands at the front of a text, and what a reader says of it.
use Rattle.std.proofs.Common.{Bor}
use Rattle.std.specs.Fmt.{decimal}
use Rattle.std.specs.Prelude.{ℕ, List, Option, ◌≡◌, IsTrue, [], ◌∷◌, ◌++◌, map, None, Some}
use Rattle.gl_box.specs.Cell.{spans_of}
use Rattle.gl_box.specs.Closed.{box_of}
use Rattle.gl_box.specs.declared.cell.Cell.{Cell}
use Rattle.gl_box.specs.declared.closed.Closed.{Closed}
use Rattle.gl_box.specs.declared.closed.Why.{Why}
use Rattle.gl_proof.specs.Words.{spaced, span_word}
use Rattle.gl_proof.specs.Claim.{box_line}
use Rattle.gl_proof.specs.Line.{AreFixes, AreSpans, ClaimLine, HeadingLine, IsLine, ended, kind_word, reason_word}
use Rattle.gl_text.specs.Forms.{is_number}
use Rattle.gl_proof.specs.declared.claim.ClaimKind.{ClaimKind}
use Rattle.gl_proof.specs.declared.line.ClaimFront.{ClaimFront}
use Rattle.gl_proof.specs.declared.version.Version.{Version}

-- the number of the entrant, the kind and the total
abbrev pub said_of : ClaimFront → List ℕ × ClaimKind × Option ℕ
said_of front = (front.number.now, front.kind, front.total)

-- the heading of a version
abbrev pub IsHeadingAt : List ℕ → Version → List ℕ → Type 0
IsHeadingAt text version rest = text ≡ ended (HeadingLine version) ++ rest

-- the spans of a box, each behind a space, and LF
pub record AreSpansAt (text : List ℕ) (spans : List (ℕ × ℕ)) (rest : List ℕ) : Type 0 where
  pub are_spans : AreSpans spans
  pub is : text ≡ spaced (map span_word spans) ++ 10 ∷ rest

-- the numbers of fixes, each behind a space, and LF
pub record AreFixesAt (text : List ℕ) (fixes : List ℕ) (rest : List ℕ) : Type 0 where
  pub are_fixes : AreFixes fixes
  pub is : text ≡ spaced (map decimal fixes) ++ 10 ∷ rest

-- the letter of a reason
abbrev pub IsReasonAt : List ℕ → Why → List ℕ → Type 0
IsReasonAt text why rest = text ≡ reason_word why ++ rest

-- the line of a box
abbrev pub IsBoxAt : List ℕ → List (ℕ × ℕ) × Why → List ℕ → Type 0
IsBoxAt text box rest = AreSpans box.0 × (text ≡ ended (box_line box) ++ rest)

-- A reader added the box that stands at the front of a text to a list and left the rest, or nothing
-- of the kind stands there and the list stays.
abbrev pub Adds : (List (ℕ × ℕ) → List ℕ → Type 0) → Why → List Closed → List Closed
    → Option (Bor (List ℕ)) → Type 0
Adds StandsAt why before after None =
    ((spans : _) (rest : List ℕ) → StandsAt spans rest → ⊥) × (after ≡ before)
Adds StandsAt why before after (Some rest) =
    (cell : Cell) × StandsAt (spans_of cell) rest.now
    × (after ≡ before ++ record { cell = cell; why = why } ∷ [])

-- the same for the line of a box
abbrev pub AddsBox : List ℕ → List Closed → List Closed → Option (Bor (List ℕ)) → Type 0
AddsBox text before after None =
    ((box : _) (rest : List ℕ) → IsBoxAt text box rest → ⊥) × (after ≡ before)
AddsBox text before after (Some rest) =
    (closed : Closed) × IsBoxAt text (box_of closed) rest.now × (after ≡ before ++ closed ∷ [])

-- the number of an entrant, and a space
abbrev pub IsEntrantAt : List ℕ → List ℕ → List ℕ → Type 0
IsEntrantAt text number rest = IsTrue (is_number number) × (text ≡ number ++ 32 ∷ rest)

-- the word of a kind of claim, and a space
abbrev pub IsKindAt : List ℕ → ClaimKind → List ℕ → Type 0
IsKindAt text kind rest = text ≡ kind_word kind ++ 32 ∷ rest

-- the line with which a claim begins
abbrev pub IsClaimAt : List ℕ → List ℕ × ClaimKind × Option ℕ → List ℕ → Type 0
IsClaimAt text said rest =
    IsLine (ClaimLine said.0 said.1 said.2)
    × (text ≡ ended (ClaimLine said.0 said.1 said.2) ++ rest)
