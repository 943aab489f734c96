-- A text that grows box by box.
use Rattle.std.proofs.Common.{◌≡◌, ◌∙◌, sym, ap, refl, ℕ, true, false, List, [], ◌∷◌, ◌++◌, map, append_assoc, Option, arith}
use Rattle.std.specs.Fmt.{decimal}
use Rattle.std.specs.Prelude.{codes}
use Rattle.std.proofs.lemmas.List.{append-nil}
use Rattle.std.proofs.lemmas.List.Concat.{flat_map-append}
use Rattle.gl_box.specs.declared.closed.Why.{Why}
use Rattle.gl_box.specs.declared.closed.Why.TheVariants.{Disordered, Shut, Bound}
use Rattle.gl_proof.specs.Kept.{Keeps, Writes}
use Rattle.gl_proof.specs.Words.{spaced, span_word, total_word}
use Rattle.gl_proof.specs.Claim.{Statement, box_line, claim_text, fix_lines, front_text, left_of, spelled}
use Rattle.gl_proof.proofs.Lines.{claim_is}
use Rattle.gl_proof.specs.Line.{BoxLine, ClaimLine, FixLine, ended, kind_word, reason_word}
use Rattle.gl_proof.specs.declared.claim.ClaimKind.{ClaimKind}

-- the line of a box, from the words with which it begins
box_line_is : (why : Why) (spans : List (ℕ × ℕ)) → ended (BoxLine why spans) ≡ (codes "BOX" ++ 32 ∷ reason_word why) ++ (spaced (map span_word spans) ++ 10 ∷ [])
box_line_is Disordered spans = refl
box_line_is Shut spans = refl
box_line_is Bound spans = refl

pub box_next : (before after words : List ℕ) (statement : Statement) (boxes left : List (List (ℕ × ℕ) × Why)) (why : Why) (spans : List (ℕ × ℕ)) → boxes ≡ (spans, why) ∷ left
    → words ≡ codes "BOX" ++ 32 ∷ reason_word why → after ≡ before ++ (words ++ (spaced (map span_word spans) ++ 10 ∷ []))
    → Writes before after (left_of true statement boxes) (left_of true statement left) true
box_next before after words statement boxes left why spans next is added = record {
  written = ended (BoxLine why spans);
  text = added ∙ ap (λ (l : List ℕ). before ++ (l ++ (spaced (map span_word spans) ++ 10 ∷ []))) is ∙ ap (λ (l : List ℕ). before ++ l) (sym (box_line_is why spans));
  parts = ap (left_of true statement) next;
  some = λ _. omega arith;
}

-- the lines before the boxes come first
pub front_next : (before after : List ℕ) (statement : Statement) (boxes : List (List (ℕ × ℕ) × Why)) → after ≡ before ++ front_text statement
    → Writes before after (left_of false statement boxes) (left_of true statement boxes) true
front_next before after statement boxes is = record { written = front_text statement; text = is; parts = refl; some = λ _. omega arith }

-- the text of a claim is its front and its boxes
pub claim_text-parts : (statement : Statement) → claim_text statement ≡ front_text statement ++ spelled (map box_line statement.boxes)
claim_text-parts statement =
    flat_map-append ended (ClaimLine statement.number statement.kind statement.total ∷ fix_lines statement.total statement.fixes) (map box_line statement.boxes)

-- a text to which nothing was appended
pub kept : (before after : List ℕ) → after ≡ before → Keeps before after
kept before after is = ([], is ∙ sym (append-nil before))

-- the line of a claim, word by word
pub claim_line_made : (before first second third fourth after number word : List ℕ) (kind : ClaimKind) (total : Option ℕ) → first ≡ before ++ codes "CLAIM" → second ≡ first ++ 32 ∷ number
    → word ≡ kind_word kind → third ≡ second ++ 32 ∷ word → fourth ≡ third ++ 32 ∷ total_word total → after ≡ fourth ++ 10 ∷ [] → after ≡ before ++ ended (ClaimLine number kind total)
claim_line_made before first second third fourth after number word kind total one two is three four five =
    let words : List ℕ = codes "CLAIM " ++ (number ++ 32 ∷ (kind_word kind ++ 32 ∷ (total_word total ++ 10 ∷ []))) in
    let whole : ended (ClaimLine number kind total) ≡ words = sym (append-nil (ended (ClaimLine number kind total))) ∙ claim_is number kind total [] in
    let made : after ≡ before ++ words = rw (five, four, three, is, two, one) (simp append_assoc) in
    made ∙ ap (λ (l : List ℕ). before ++ l) (sym whole)

-- the line of the fixes
pub fix_line_made : (before first second after fixes : List ℕ) → first ≡ before ++ codes "FIX" → second ≡ first ++ spaced (map decimal fixes) → after ≡ second ++ 10 ∷ []
    → after ≡ before ++ ended (FixLine fixes)
fix_line_made before first second after fixes one two three = rw (three, two, one) (simp append_assoc)
