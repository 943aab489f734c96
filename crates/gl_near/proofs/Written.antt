-- A text that grows piece by piece.
use Rattle.std.proofs.Common.{◌≡◌, ◌∙◌, sym, ap, refl, Result, Ok, Err, Option, ℕ, ◌+◌, ◌<◌, true, List, [], ◌∷◌, ◌++◌, length, get_or, take, map, append_assoc, arith}
use Rattle.std.proofs.lemmas.List.{append-nil, get_or-map, length-map}
use Rattle.std.proofs.lemmas.List.Concat.{flat_map-append}
use Rattle.std.specs.Fmt.{decimal}
use Rattle.std.specs.Prelude.{All, codes, OnErr}
use Rattle.gl_box.specs.Cell.{spans_of}
use Rattle.gl_box.specs.declared.cell.Cell.{Cell}
use Rattle.gl_box.proofs.Spans.{length-spans_of}
use Rattle.gl_proof.specs.Kept.{Keeps, Writes}
use Rattle.gl_proof.specs.Words.{IsSpan, spaced, span_word, total_word}
use Rattle.gl_proof.proofs.Pieces.{pieces_more}
use Rattle.gl_near.specs.declared.found.NearBest.{NearBest}
use Rattle.gl_near.specs.declared.found.NearClosed.{NearClosed}
use Rattle.gl_near.specs.declared.found.NearWhy.{NearWhy}
use Rattle.gl_near.specs.declared.found.NearWhy.TheVariants.{Time, Near}
use Rattle.gl_near.specs.declared.write.NearPart.TheVariants.{Front, Boxes, Over}
use Rattle.gl_near.specs.Certificate.{box_of}
use Rattle.gl_near.specs.Line.{AreTwoSpans, BoxLine, EndLine, HeadingLine, LeastLine, Line, PairLine, box_line, boxes_text, ended, front_lines, front_text, left_of, near_text, reason_word, spelled}

-- one box more
pub box_more : (before was now : List ℕ) (boxes : List NearClosed) (i : ℕ) (closed : NearClosed) → i < length boxes → closed ≡ get_or boxes i closed
    → was ≡ before ++ spelled (map box_line (take i (map box_of boxes))) → now ≡ was ++ ended (box_line (box_of closed)) → now ≡ before ++ spelled (map box_line (take (i + 1) (map box_of boxes)))
box_more before was now boxes i closed below item is added =
    let front = before ++ spelled (map box_line (take i (map box_of boxes))) in
    let inside : i < length (map box_of boxes) = rw length-map below in
    let read : get_or (map box_of boxes) i (box_of closed) ≡ box_of closed = get_or-map box_of boxes i closed (box_of closed) below ∙ ap box_of (sym item) in
    added
    ∙ ap (λ (l : List ℕ). l ++ ended (box_line (box_of closed))) is
    ∙ ap (λ (b : List (ℕ × ℕ) × NearWhy). front ++ ended (box_line b)) (sym read)
    ∙ pieces_more ended box_line before (map box_of boxes) i (box_of closed) inside

-- the text of a claim is its front, its boxes and the end
pub near_text-parts : (best : Option NearBest) (boxes : List (List (ℕ × ℕ) × NearWhy)) → near_text best boxes ≡ front_text best ++ (boxes_text boxes ++ ended EndLine)
near_text-parts best boxes =
    let lines : List Line = map box_line boxes in
    flat_map-append ended (HeadingLine ∷ front_lines best) (lines ++ EndLine ∷ [])
    ∙ ap (λ (l : List ℕ). front_text best ++ l) (flat_map-append ended lines (EndLine ∷ []) ∙ ap (λ (l : List ℕ). boxes_text boxes ++ l) (append-nil (ended EndLine)))

-- the front and the whole, piece by piece
pub front_written : (before first all : List ℕ) (best : Option NearBest) → first ≡ before ++ ended HeadingLine → all ≡ first ++ spelled (front_lines best) → all ≡ before ++ front_text best
front_written before first all best one two = two ∙ ap (λ (l : List ℕ). l ++ spelled (front_lines best)) one ∙ append_assoc before (ended HeadingLine) (spelled (front_lines best))

pub claim_written : (before first second all : List ℕ) (best : Option NearBest) (boxes : List (List (ℕ × ℕ) × NearWhy)) → first ≡ before ++ front_text best → second ≡ first ++ boxes_text boxes
    → all ≡ second ++ ended EndLine → all ≡ before ++ near_text best boxes
claim_written before first second all best boxes one two three =
    three
    ∙ ap (λ (l : List ℕ). l ++ ended EndLine) (two ∙ ap (λ (l : List ℕ). l ++ boxes_text boxes) one)
    ∙ append_assoc (before ++ front_text best) (boxes_text boxes) (ended EndLine)
    ∙ append_assoc before (front_text best) (boxes_text boxes ++ ended EndLine)
    ∙ ap (λ (l : List ℕ). before ++ l) (sym (near_text-parts best boxes))

-- the line of a box, from the words with which it begins
box_line_is : (why : NearWhy) (spans : List (ℕ × ℕ)) → ended (BoxLine why spans) ≡ (codes "BOX" ++ 32 ∷ reason_word why) ++ (spaced (map span_word spans) ++ 10 ∷ [])
box_line_is Time spans = refl
box_line_is Near spans = refl

pub box_written : (before after : List ℕ) (letter : ℕ) (why : NearWhy) (spans : List (ℕ × ℕ)) → letter ∷ [] ≡ reason_word why
    → after ≡ before ++ (codes "BOX" ++ 32 ∷ letter ∷ (spaced (map span_word spans) ++ 10 ∷ [])) → after ≡ before ++ ended (BoxLine why spans)
box_written before after letter why spans is added =
    added ∙ ap (λ (l : List ℕ). before ++ (codes "BOX" ++ 32 ∷ (l ++ (spaced (map span_word spans) ++ 10 ∷ [])))) is ∙ ap (λ (l : List ℕ). before ++ l) (sym (box_line_is why spans))

-- the lines of a proof, one after the other
pub front_next : (before after : List ℕ) (best : Option NearBest) (boxes : List (List (ℕ × ℕ) × NearWhy)) → after ≡ before ++ front_text best
    → Writes before after (left_of (Front best) boxes) (left_of Boxes boxes) true
front_next before after best boxes is = record { written = front_text best; text = is; parts = near_text-parts best boxes; some = λ _. omega arith }

pub box_next : (before after : List ℕ) (letter : ℕ) (boxes left : List (List (ℕ × ℕ) × NearWhy)) (why : NearWhy) (spans : List (ℕ × ℕ)) → boxes ≡ (spans, why) ∷ left
    → letter ∷ [] ≡ reason_word why → after ≡ before ++ (codes "BOX" ++ 32 ∷ letter ∷ (spaced (map span_word spans) ++ 10 ∷ [])) → Writes before after (left_of Boxes boxes) (left_of Boxes left) true
box_next before after letter boxes left why spans next is added = record {
  written = ended (BoxLine why spans);
  text = box_written before after letter why spans is added;
  parts = ap (λ (l : List (List (ℕ × ℕ) × NearWhy)). boxes_text l ++ ended EndLine) next ∙ append_assoc (ended (BoxLine why spans)) (boxes_text left) (ended EndLine);
  some = λ _. omega arith;
}

pub end_next : (before after : List ℕ) (boxes left : List (List (ℕ × ℕ) × NearWhy)) → boxes ≡ [] → after ≡ before ++ ended EndLine → Writes before after (left_of Boxes boxes) (left_of Over left) true
end_next before after boxes left none is = record {
  written = ended EndLine;
  text = is;
  parts = ap (λ (l : List (List (ℕ × ℕ) × NearWhy)). boxes_text l ++ ended EndLine) none ∙ sym (append-nil (ended EndLine));
  some = λ _. omega arith;
}

-- the spans of a cell with two axes
pub two_spans : (cell : Cell) → cell.axes ≡ 2 → All IsSpan (spans_of cell) → AreTwoSpans (spans_of cell)
two_spans cell axes each = record { two = length-spans_of cell ∙ axes; each = each }

-- what is put behind a text, piece by piece
pieces : (before front one other last : List ℕ) → (((before ++ front) ++ one) ++ other) ++ last ≡ before ++ ((front ++ (one ++ (other ++ []))) ++ last)
pieces before front one other last = simp (append_assoc, append-nil)

two_pieces : (before front one last : List ℕ) → ((before ++ front) ++ one) ++ last ≡ before ++ ((front ++ (one ++ [])) ++ last)
two_pieces before front one last = simp (append_assoc, append-nil)

-- the line of a pair, piece by piece
pub pair_written : (before a b d all : List ℕ) (first second : ℕ) → a ≡ before ++ codes "PAIR" → b ≡ a ++ 32 ∷ decimal first → d ≡ b ++ 32 ∷ decimal second → all ≡ d ++ 10 ∷ []
    → all ≡ before ++ ended (PairLine first second)
pair_written before a b d all first second one two_is three four =
    four
    ∙ ap (λ (l : List ℕ). l ++ 10 ∷ []) (three ∙ ap (λ (l : List ℕ). l ++ 32 ∷ decimal second) (two_is ∙ ap (λ (l : List ℕ). l ++ 32 ∷ decimal first) one))
    ∙ pieces before (codes "PAIR") (32 ∷ decimal first) (32 ∷ decimal second) (10 ∷ [])

-- the line of a least distance, piece by piece
pub least_written : (before a b all : List ℕ) (total : Option ℕ) → a ≡ before ++ codes "LEAST" → b ≡ a ++ 32 ∷ total_word total → all ≡ b ++ 10 ∷ [] → all ≡ before ++ ended (LeastLine total)
least_written before a b all total one two_is three =
    three
    ∙ ap (λ (l : List ℕ). l ++ 10 ∷ []) (two_is ∙ ap (λ (l : List ℕ). l ++ 32 ∷ total_word total) one)
    ∙ two_pieces before (codes "LEAST") (32 ∷ total_word total) (10 ∷ [])

pub keeps_same : (before after : List ℕ) → after ≡ before → Keeps before after
keeps_same before after is = ([], is ∙ sym (append-nil before))

-- what holds at any end holds at an error
pub at_err : {T E : Type 0} (result : Result T E) (P : Type 0) → P → OnErr result P
at_err (Ok x) P holds = tt
at_err (Err e) P holds = holds
