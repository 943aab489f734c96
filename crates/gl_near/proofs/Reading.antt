-- The text of a claim has one reading.
use Rattle.std.proofs.Common.{◌≡◌, ◌∙◌, sym, ap, refl, ℕ, List, [], ◌∷◌, ◌++◌, map, Option, Some, None}
use Rattle.std.specs.Prelude.{All, IfSome}
use Rattle.std.proofs.lemmas.List.{append-nil}
use Rattle.std.proofs.lemmas.List.Elements.{All-head, All-tail}
use Rattle.gl_proof.specs.declared.error.ProofError.{ProofError}
use Rattle.gl_proof.specs.declared.error.ProofError.TheVariants.{Memory}
use Rattle.gl_proof.specs.LineRefusal.{Follow, IsRefusal, last_line}
use Rattle.gl_proof.proofs.Refused.{IsFull, full_refused, full_unique, refused_once}
use Rattle.gl_near.specs.declared.found.NearBest.{NearBest}
use Rattle.gl_near.specs.declared.found.NearWhy.{NearWhy}
use Rattle.gl_near.specs.Line.{AreTwoSpans, IsBest, IsTextOf, Line, HeadingLine, LeastLine, PairLine, EndLine, box_line, goes_on, lines_of, may_follow, near_grammar, near_text}
use Rattle.gl_near.specs.LineCheck.{Known, known_of}
use Rattle.gl_near.proofs.Known.{claim_known}
use Rattle.gl_near.proofs.Lines.{near_plain}

-- behind a line boxes or the end may stand
abbrev pub GoesOn : Line → Type 0
GoesOn last = (next : Line) → may_follow last next ≡ goes_on next

boxes_follow : (last : Line) (boxes : List (List (ℕ × ℕ) × NearWhy)) → GoesOn last → All (λ box. AreTwoSpans box.0) boxes
    → Follow near_grammar last (map box_line boxes ++ EndLine ∷ []) × (last_line last (map box_line boxes ++ EndLine ∷ []) ≡ EndLine)
boxes_follow last [] on each = ((tt, on EndLine, tt), refl)
boxes_follow last (box ∷ boxes) on each =
    let rest = boxes_follow (box_line box) boxes (λ next. refl) (All-tail (λ (b : List (ℕ × ℕ) × NearWhy). AreTwoSpans b.0) box boxes each) in
    ((All-head (λ (b : List (ℕ × ℕ) × NearWhy). AreTwoSpans b.0) box boxes each, on (box_line box), rest.0), rest.1)

-- the lines behind the heading stand where they may, up to the end
lines_follow : (best : Option NearBest) (boxes : List (List (ℕ × ℕ) × NearWhy)) → IfSome best IsBest → All (λ box. AreTwoSpans box.0) boxes
    → Follow near_grammar HeadingLine (lines_of best boxes) × (last_line HeadingLine (lines_of best boxes) ≡ EndLine)
lines_follow None boxes is each =
    let rest = boxes_follow (LeastLine None) boxes (λ next. refl) each in ((tt, refl, rest.0), rest.1)
lines_follow (Some best) boxes is each =
    let rest = boxes_follow (PairLine best.first best.second) boxes (λ next. refl) each in ((is.total, refl, ((is.first, is.second), refl, rest.0)), rest.1)

-- the text of a claim runs through to its end
text_full : (text : List ℕ) (best : Option NearBest) (boxes : List (List (ℕ × ℕ) × NearWhy)) → IsTextOf text best boxes → IsFull near_grammar text (lines_of best boxes)
text_full text best boxes of =
    let follow = lines_follow best boxes of.numbers of.each in
    record { runs = record { is = of.is ∙ sym (append-nil (near_text best boxes)); follow = follow.0 }; ends = follow.1 }

-- one refusal is told of a text, beside want of memory
pub refused_unique : (text : List ℕ) (a b : ProofError) → (a ≡ Memory → ⊥) → (b ≡ Memory → ⊥) → IsRefusal near_grammar text a → IsRefusal near_grammar text b → a ≡ b
refused_unique text a b some_a some_b is_a is_b = refused_once near_grammar near_plain text a b some_a some_b is_a is_b

-- and none of the text of a claim
pub text_refused : (text : List ℕ) (best : Option NearBest) (boxes : List (List (ℕ × ℕ) × NearWhy)) (error : ProofError) → IsTextOf text best boxes → IsRefusal near_grammar text error → error ≡ Memory
text_refused text best boxes error of is = full_refused near_grammar near_plain text (lines_of best boxes) error (text_full text best boxes of) is

-- one claim has a text
pub text_unique : (text : List ℕ) (one other : Option NearBest) (xs ys : List (List (ℕ × ℕ) × NearWhy)) → IsTextOf text one xs → IsTextOf text other ys → (one ≡ other) × (xs ≡ ys)
text_unique text one other xs ys is_one is_other =
    let lines = full_unique near_grammar near_plain text (lines_of one xs) (lines_of other ys) (text_full text one xs is_one) (text_full text other ys is_other) in
    let known = ap (λ (l : List Line). known_of (HeadingLine ∷ l)) lines in
    let first = claim_known one xs in
    let second = claim_known other ys in
    (sym first.0 ∙ ap (λ (k : Known). k.best) known ∙ second.0, sym first.1 ∙ ap (λ (k : Known). k.boxes) known ∙ second.1)
