-- A line of a proof text, and how it is spelled; the text of a claim.
use Rattle.std.specs.Prelude.{◌≡◌, ℕ, ◌^◌, ◌<◌, Bool, true, false, List, [], ◌∷◌, ◌++◌, length, map, Option, None, Some, IfSome, codes, All}
use Rattle.std.specs.Fmt.{decimal}
use Rattle.std.specs.List.{flat_map}
use Rattle.gl_proof.specs.Grammar.{Grammar}
use Rattle.gl_proof.specs.Words.{IsSpan, spaced, span_word, total_word}
use Rattle.gl_near.specs.declared.claim.NearClaim.{NearClaim}
use Rattle.gl_near.specs.declared.found.NearBest.{NearBest}
use Rattle.gl_near.specs.declared.found.NearWhy.{NearWhy}
use Rattle.gl_near.specs.declared.found.NearWhy.TheVariants.{Time, Near}
use Rattle.gl_near.specs.declared.write.NearPart.{NearPart}
use Rattle.gl_near.specs.declared.write.NearPart.TheVariants.{Front, Boxes, Over}
use Rattle.gl_near.specs.Certificate.{box_of}

-- What a line says: that the text is such a proof; the least distance; the pair that has it; a box,
-- by which reason it is closed and its spans; that the proof ends.
pub data Line : Type 0 where
  HeadingLine : Line
  LeastLine : Option ℕ → Line
  PairLine : ℕ → ℕ → Line
  BoxLine : NearWhy → List (ℕ × ℕ) → Line
  EndLine : Line

abbrev pub reason_word : NearWhy → List ℕ
reason_word Time = codes "T"
reason_word Near = codes "N"

abbrev pub line_text : Line → List ℕ
line_text HeadingLine = codes "GLIDENEAR 1"
line_text (LeastLine total) = codes "LEAST" ++ spaced (total_word total ∷ [])
line_text (PairLine first second) =
    codes "PAIR" ++ spaced (decimal first ∷ decimal second ∷ [])
line_text (BoxLine why spans) = codes "BOX" ++ spaced (reason_word why ∷ map span_word spans)
line_text EndLine = codes "END"

-- a line with the LF, the byte 10, that ends it
abbrev pub ended : Line → List ℕ
ended line = line_text line ++ 10 ∷ []

-- the two spans of a box
pub record AreTwoSpans (spans : List (ℕ × ℕ)) : Type 0 where
  pub two : length spans ≡ 2
  pub each : All IsSpan spans

-- what can stand in a line
abbrev pub IsLine : Line → Type 0
IsLine HeadingLine = Unit {0}
IsLine (LeastLine total) = IfSome total (λ least. least < 2 ^ 64)
IsLine (PairLine first second) = (first < 2 ^ 32) × (second < 2 ^ 32)
IsLine (BoxLine why spans) = AreTwoSpans spans
IsLine EndLine = Unit {0}

-- what may stand behind the lines before the boxes, and behind a box
abbrev pub goes_on : Line → Bool
goes_on HeadingLine = false
goes_on (LeastLine total) = false
goes_on (PairLine first second) = false
goes_on (BoxLine why spans) = true
goes_on EndLine = true

-- Whether a line may stand right behind another one: behind the heading the least distance; behind
-- that the pair, where there is a distance; then boxes, as many as there are, and the end.
abbrev pub may_follow : Line → Line → Bool
may_follow HeadingLine (LeastLine total) = true
may_follow HeadingLine other = false
may_follow (LeastLine None) next = goes_on next
may_follow (LeastLine (Some least)) (PairLine first second) = true
may_follow (LeastLine (Some least)) other = false
may_follow (PairLine first second) next = goes_on next
may_follow (BoxLine why spans) next = goes_on next
may_follow EndLine next = false

-- the lines of such proofs, and how they follow each other
abbrev pub near_grammar : Grammar Line
near_grammar = record {
  spelling = line_text;
  IsLine = IsLine;
  may_follow = may_follow;
  heading = HeadingLine;
  last = EndLine;
}

-- the text of lines
abbrev pub spelled : List Line → List ℕ
spelled lines = flat_map ended lines

abbrev pub box_line : List (ℕ × ℕ) × NearWhy → Line
box_line box = BoxLine box.1 box.0

-- the lines before the boxes: the least distance, and the pair exactly where there is one
abbrev pub front_lines : Option NearBest → List Line
front_lines None = LeastLine None ∷ []
front_lines (Some best) = LeastLine (Some best.total) ∷ PairLine best.first best.second ∷ []

-- the lines behind the heading
abbrev pub lines_of : Option NearBest → List (List (ℕ × ℕ) × NearWhy) → List Line
lines_of best boxes = front_lines best ++ (map box_line boxes ++ EndLine ∷ [])

-- the text of a claim
abbrev pub near_text : Option NearBest → List (List (ℕ × ℕ) × NearWhy) → List ℕ
near_text best boxes = spelled (HeadingLine ∷ lines_of best boxes)

-- the text before the boxes, and that of some boxes
abbrev pub front_text : Option NearBest → List ℕ
front_text best = spelled (HeadingLine ∷ front_lines best)

abbrev pub boxes_text : List (List (ℕ × ℕ) × NearWhy) → List ℕ
boxes_text boxes = spelled (map box_line boxes)

-- the text that is left of a proof, from a part of it on
abbrev pub left_of : NearPart → List (List (ℕ × ℕ) × NearWhy) → List ℕ
left_of (Front best) boxes = near_text best boxes
left_of Boxes boxes = boxes_text boxes ++ ended EndLine
left_of Over boxes = []

-- the text of a `NearClaim`
abbrev pub text_of : NearClaim → List ℕ
text_of claim = near_text claim.best (map box_of claim.closed.items)

-- what can be written: each cell has two axes
abbrev pub IsWritable : NearClaim → Type 0
IsWritable claim = All (λ closed. closed.cell.axes ≡ 2) claim.closed.items

-- a least distance and a pair within the ranges of their numbers
pub record IsBest (best : NearBest) : Type 0 where
  pub total : best.total < 2 ^ 64
  pub first : best.first < 2 ^ 32
  pub second : best.second < 2 ^ 32

-- a text is that of a least distance with its pair, or of none, and of boxes
pub record IsTextOf (text : List ℕ) (best : Option NearBest)
    (boxes : List (List (ℕ × ℕ) × NearWhy)) : Type 0 where
  pub numbers : IfSome best IsBest
  pub each : All (λ box. AreTwoSpans box.0) boxes
  pub is : text ≡ near_text best boxes
