-- The lines of a whole text are those of a claim, and what is told of a text by its lines.
use Rattle.std.proofs.Common.{◌≡◌, ◌∙◌, sym, ap, refl, subst, ℕ, List, [], ◌∷◌, ◌++◌, map, Option, Some, None}
use Rattle.std.specs.Prelude.{All}
use Rattle.std.proofs.lemmas.Bool.{false≢true}
use Rattle.std.proofs.lemmas.List.{append-nil}
use Rattle.std.proofs.lemmas.List.Elements.{All-cons, All-nil}
use Rattle.gl_proof.specs.LineReading.{IsWhole}
use Rattle.gl_proof.specs.LineRefusal.{Follow, IsRefusal, last_line}
use Rattle.gl_proof.specs.LineRules.{IsTextRefused, grammar_from}
use Rattle.gl_proof.specs.declared.error.ProofError.{ProofError}
use Rattle.gl_proof.specs.declared.error.ProofError.TheVariants.{Heading, Line as WrongLine, Cut, Memory}
use Rattle.gl_near.specs.Line.{AreTwoSpans, BoxLine, EndLine, HeadingLine, IsTextOf, LeastLine, Line, PairLine, box_line, may_follow, lines_of, near_grammar, spelled}
use Rattle.gl_near.specs.LineCheck.{Known, known_of}
use Rattle.gl_near.specs.NearLines.{near_rules}
use Rattle.gl_near.specs.declared.found.NearBest.{NearBest}
use Rattle.gl_near.specs.declared.found.NearWhy.{NearWhy}
use Rattle.gl_near.proofs.Known.{claim_known}
use Rattle.gl_near.proofs.Reading.{GoesOn}

-- what is told of a text by the rules of its lines
pub told_of_near : (text : List ℕ) (error : ProofError) → IsTextRefused near_rules text error → IsRefusal near_grammar text error
told_of_near text Heading told = told HeadingLine refl
told_of_near text (WrongLine line) (heading, is, told) = subst (λ (h : Line). IsRefusal (grammar_from near_rules h) text (WrongLine line)) is told
told_of_near text Cut (heading, is, told) = subst (λ (h : Line). IsRefusal (grammar_from near_rules h) text Cut) is told
told_of_near text Memory told = tt

-- boxes up to the end
record AreBoxes (lines : List Line) : Type 0 where
  boxes : List (List (ℕ × ℕ) × NearWhy)
  each : All (λ box. AreTwoSpans box.0) boxes
  are : lines ≡ map box_line boxes ++ EndLine ∷ []

boxes_are : (last : Line) (lines : List Line) → GoesOn last → Follow near_grammar last lines → last_line last lines ≡ EndLine → AreBoxes lines
boxes_are last [] on follow ends = absurd (false≢true (ap (λ (l : Line). may_follow l EndLine) (sym ends) ∙ on EndLine))
boxes_are last (HeadingLine ∷ lines) on follow ends = absurd (false≢true (sym (on HeadingLine) ∙ follow.1))
boxes_are last (LeastLine total ∷ lines) on follow ends = absurd (false≢true (sym (on (LeastLine total)) ∙ follow.1))
boxes_are last (PairLine first second ∷ lines) on follow ends = absurd (false≢true (sym (on (PairLine first second)) ∙ follow.1))
boxes_are last (BoxLine why spans ∷ lines) on follow ends =
    let rest = boxes_are (BoxLine why spans) lines (λ next. refl) follow.2 ends in
    record { boxes = (spans, why) ∷ rest.boxes; each = All-cons (λ box. AreTwoSpans box.0) (spans, why) rest.boxes follow.0 rest.each; are = ap (λ (l : List Line). BoxLine why spans ∷ l) rest.are }
boxes_are last (EndLine ∷ []) on follow ends = record { boxes = []; each = All-nil (λ box. AreTwoSpans box.0); are = refl }
boxes_are last (EndLine ∷ line ∷ lines) on follow ends = absurd (false≢true follow.2.1)

-- the lines of a whole text are those of a claim
record IsParsed (text : List ℕ) (lines : List Line) : Type 0 where
  best : Option NearBest
  boxes : List (List (ℕ × ℕ) × NearWhy)
  lines_are : lines ≡ HeadingLine ∷ lines_of best boxes
  is_text : IsTextOf text best boxes

Some-same : (a b : Line) → Some a ≡ Some b → a ≡ b
Some-same a b same = cc

-- the text of such lines
text_is : (text : List ℕ) (lines : List Line) (best : Option NearBest) (boxes : List (List (ℕ × ℕ) × NearWhy)) → lines ≡ HeadingLine ∷ lines_of best boxes → text ≡ spelled lines ++ []
    → text ≡ spelled (HeadingLine ∷ lines_of best boxes)
text_is text lines best boxes are is = is ∙ append-nil (spelled lines) ∙ ap spelled are

parsed_behind : (text : List ℕ) (lines : List Line) → text ≡ spelled (HeadingLine ∷ lines) ++ [] → Follow near_grammar HeadingLine lines → last_line HeadingLine lines ≡ EndLine
    → IsParsed text (HeadingLine ∷ lines)
parsed_behind text [] is follow ends = absurd (cc)
parsed_behind text (HeadingLine ∷ lines) is follow ends = absurd (false≢true follow.1)
parsed_behind text (PairLine first second ∷ lines) is follow ends = absurd (false≢true follow.1)
parsed_behind text (BoxLine why spans ∷ lines) is follow ends = absurd (false≢true follow.1)
parsed_behind text (EndLine ∷ lines) is follow ends = absurd (false≢true follow.1)
parsed_behind text (LeastLine None ∷ lines) is follow ends =
    let rest = boxes_are (LeastLine None) lines (λ next. refl) follow.2 ends in
    let are = ap (λ (l : List Line). HeadingLine ∷ LeastLine None ∷ l) rest.are in
    record { best = None; boxes = rest.boxes; lines_are = are; is_text = record { numbers = tt; each = rest.each; is = text_is text _ None rest.boxes are is } }
parsed_behind text (LeastLine (Some total) ∷ []) is follow ends = absurd (cc)
parsed_behind text (LeastLine (Some total) ∷ HeadingLine ∷ lines) is follow ends = absurd (false≢true follow.2.1)
parsed_behind text (LeastLine (Some total) ∷ LeastLine t ∷ lines) is follow ends = absurd (false≢true follow.2.1)
parsed_behind text (LeastLine (Some total) ∷ BoxLine why spans ∷ lines) is follow ends = absurd (false≢true follow.2.1)
parsed_behind text (LeastLine (Some total) ∷ EndLine ∷ lines) is follow ends = absurd (false≢true follow.2.1)
parsed_behind text (LeastLine (Some total) ∷ PairLine first second ∷ lines) is follow ends =
    let rest = boxes_are (PairLine first second) lines (λ next. refl) follow.2.2 ends in
    let best : Option NearBest = Some (record { total = total; first = first; second = second }) in
    let are : HeadingLine ∷ LeastLine (Some total) ∷ PairLine first second ∷ lines ≡ HeadingLine ∷ lines_of best rest.boxes =
    ap (λ (l : List Line). HeadingLine ∷ LeastLine (Some total) ∷ PairLine first second ∷ l) rest.are in
    record {
      best = best;
      boxes = rest.boxes;
      lines_are = are;
      is_text = record { numbers = record { total = follow.0; first = follow.2.0.0; second = follow.2.0.1 }; each = rest.each; is = text_is text _ best rest.boxes are is };
    }

whole_parsed : (text : List ℕ) (lines : List Line) → IsWhole near_rules text lines → IsParsed text lines
whole_parsed text [] whole = let e = whole.ended in absurd (cc)
whole_parsed text (heading ∷ lines) whole =
    let is = whole.runs.begin.0 in
    let parsed = parsed_behind text lines (subst (λ (h : Line). text ≡ spelled (h ∷ lines) ++ []) is whole.runs.is) (subst (λ (h : Line). Follow near_grammar h lines) is whole.runs.begin.1)
    (subst (λ (h : Line). last_line h lines ≡ EndLine) is (Some-same _ _ whole.ended)) in
    subst (λ (h : Line). IsParsed text (h ∷ lines)) (sym is) parsed

-- such a text is that of what is known from its lines
pub whole_known : (text : List ℕ) (lines : List Line) → IsWhole near_rules text lines → let known = known_of lines in IsTextOf text known.best known.boxes
whole_known text lines whole =
    let parsed = whole_parsed text lines whole in
    let known = ap known_of parsed.lines_are in
    let claim = claim_known parsed.best parsed.boxes in
    subst (λ (best : Option NearBest). IsTextOf text best (known_of lines).boxes) (sym (ap (λ (k : Known). k.best) known ∙ claim.0))
    (subst (λ (boxes : List (List (ℕ × ℕ) × NearWhy)). IsTextOf text parsed.best boxes) (sym (ap (λ (k : Known). k.boxes) known ∙ claim.1)) parsed.is_text)
