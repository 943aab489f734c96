-- What a claim states, and its lines.
use Rattle.std.specs.Prelude.{◌≡◌, ℕ, ◌^◌, ◌<◌, ◌≤◌, IsTrue, Bool, true, false, List, [], ◌∷◌, ◌++◌, length, map, Option, None, Some, IfSome, MatchOption, All}
use Rattle.std.specs.List.{flat_map}
use Rattle.gl_box.specs.declared.closed.Why.{Why}
use Rattle.gl_box.specs.InLists.{boxes_in}
use Rattle.gl_proof.specs.declared.claim.ClaimKind.{ClaimKind}
use Rattle.gl_proof.specs.declared.claim.Claim.{Claim}
use Rattle.gl_text.specs.Forms.{is_number}
use Rattle.gl_proof.specs.Line.{Line, ClaimLine, FixLine, BoxLine, AreFixes, AreSpans, ended}

-- the number of the entrant, the kind, the greatest total in centimetres, the numbers of the fixes
-- that reach it, and the boxes, each with its reason
pub record Statement : Type 0 where
  pub number : List ℕ
  pub kind : ClaimKind
  pub total : Option ℕ
  pub fixes : List ℕ
  pub boxes : List (List (ℕ × ℕ) × Why)

-- what a claim states
abbrev pub statement_of : Claim → Statement
statement_of claim = record {
  number = claim.number;
  kind = claim.kind;
  total = claim.total;
  fixes = claim.fixes.items;
  boxes = boxes_in claim.cells;
}

-- a claim that can be written: the number is an entrant's, and a total has at most 10 fixes
pub record IsWritable (claim : Claim) : Type 0 where
  pub number : IsTrue (is_number claim.number)
  pub ten_fixes : length claim.fixes.items ≤ 10

-- a statement that has a text: fixes exactly where there is a total, and all within their ranges
pub record IsStatement (statement : Statement) : Type 0 where
  pub number : IsTrue (is_number statement.number)
  pub total : IfSome statement.total (λ greatest. greatest < 2 ^ 64)
  pub fixes : MatchOption statement.total (statement.fixes ≡ []) (λ _. AreFixes statement.fixes)
  pub boxes : All (λ box. AreSpans box.0) statement.boxes

-- the line of the fixes, where there is a total
abbrev pub fix_lines : Option ℕ → List ℕ → List Line
fix_lines None fixes = []
fix_lines (Some total) fixes = FixLine fixes ∷ []

-- the line of a box
abbrev pub box_line : List (ℕ × ℕ) × Why → Line
box_line box = BoxLine box.1 box.0

-- the lines of a claim
abbrev pub claim_lines : Statement → List Line
claim_lines statement =
    ClaimLine statement.number statement.kind statement.total
    ∷ (fix_lines statement.total statement.fixes
    ++ map box_line statement.boxes)

-- lines, each with its LF
abbrev pub spelled : List Line → List ℕ
spelled lines = flat_map ended lines

-- the text of a claim
abbrev pub claim_text : Statement → List ℕ
claim_text statement = spelled (claim_lines statement)

-- the text of a claim's lines before its boxes
abbrev pub front_text : Statement → List ℕ
front_text statement =
    spelled (ClaimLine statement.number statement.kind statement.total
    ∷ fix_lines statement.total statement.fixes)

-- the text of boxes
abbrev pub boxes_text : List (List (ℕ × ℕ) × Why) → List ℕ
boxes_text boxes = spelled (map box_line boxes)

-- the text that is left of a claim: its boxes, and what stands before them until that has gone
abbrev pub left_of : Bool → Statement → List (List (ℕ × ℕ) × Why) → List ℕ
left_of false statement boxes = front_text statement ++ boxes_text boxes
left_of true statement boxes = boxes_text boxes
