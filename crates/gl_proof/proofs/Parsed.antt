-- The lines of a whole proof are those of claims.
use Rattle.std.proofs.Common.{◌≡◌, ◌∙◌, sym, ap, refl, subst, ℕ, List, [], ◌∷◌, ◌++◌, map, append_assoc, Option, Some, None, arith}
use Rattle.std.specs.List.{flat_map}
use Rattle.std.specs.Prelude.{All, MatchOption}
use Rattle.std.proofs.lemmas.Bool.{false≢true}
use Rattle.std.proofs.lemmas.List.{append-nil}
use Rattle.std.proofs.lemmas.List.Concat.{flat_map-append}
use Rattle.std.proofs.lemmas.List.Elements.{All-append, All-cons, All-head, All-nil, All-tail}
use Rattle.gl_box.specs.declared.closed.Why.{Why}
use Rattle.gl_box.specs.declared.closed.Why.TheVariants.{Bound}
use Rattle.gl_proof.specs.Claim.{IsStatement, Statement, box_line, claim_lines, fix_lines, spelled}
use Rattle.gl_proof.specs.ClaimLines.{HasItsFixes, NoBoxFirst, lines_said}
use Rattle.gl_proof.specs.Line.{AreSpans, BoxLine, ClaimLine, EndLine, FixLine, HeadingLine, Line, may_follow, proof_grammar}
use Rattle.gl_proof.specs.LineReading.{IsWhole}
use Rattle.gl_proof.specs.LineRefusal.{Follow, last_line}
use Rattle.gl_proof.specs.ProofLines.{proof_rules}
use Rattle.gl_proof.specs.Text.{IsTextOf, lines_of}
use Rattle.gl_proof.specs.declared.claim.ClaimKind.{ClaimKind}
use Rattle.gl_proof.specs.declared.version.Version.{Version}
use Rattle.gl_proof.proofs.Chain.{GoesOn, lines_follow}
use Rattle.gl_proof.proofs.Refused.{last-append}

follow_parts : (v : Version) (last : Line) (a b : List Line) → Follow (proof_grammar v) last (a ++ b) → Follow (proof_grammar v) last a × Follow (proof_grammar v) (last_line last a) b
follow_parts v last [] b follow = (tt, follow)
follow_parts v last (line ∷ a) b follow =
    let rest = follow_parts v line a b follow.2 in ((follow.0, follow.1, rest.0), rest.1)

abbrev HasSpans : List (ℕ × ℕ) × Why → Type 0
HasSpans box = AreSpans box.0

boxes_are : (v : Version) (last : Line) (boxes : List (List (ℕ × ℕ) × Why)) → Follow (proof_grammar v) last (map box_line boxes) → All HasSpans boxes
boxes_are v last [] follow = All-nil HasSpans
boxes_are v last (box ∷ boxes) follow = All-cons HasSpans box boxes follow.0 (boxes_are v (box_line box) boxes follow.2)

statement_is : (v : Version) (last : Line) (number : List ℕ) (kind : ClaimKind) (total : Option ℕ) (fixes : List ℕ) (boxes : List (List (ℕ × ℕ) × Why)) → MatchOption total (fixes ≡ []) (λ _. Unit {0})
    → Follow (proof_grammar v) last (ClaimLine number kind total ∷ (fix_lines total fixes ++ map box_line boxes))
    → IsStatement (record { number = number; kind = kind; total = total; fixes = fixes; boxes = boxes })
statement_is v last number kind None fixes boxes named follow =
    record { number = follow.0.0; total = follow.0.1; fixes = named; boxes = boxes_are v (ClaimLine number kind None) boxes follow.2 }
statement_is v last number kind (Some total) fixes boxes named follow =
    record { number = follow.0.0; total = follow.0.1; fixes = follow.2.0; boxes = boxes_are v (FixLine fixes) boxes follow.2.2 }

statements_are : (v : Version) (last : Line) (said : List Statement) → All HasItsFixes said → Follow (proof_grammar v) last (flat_map claim_lines said) → All IsStatement said
statements_are v last [] named follow = All-nil IsStatement
statements_are v last (s ∷ said) named follow =
    let parts = follow_parts v last (claim_lines s) (flat_map claim_lines said) follow in
    All-cons IsStatement s said (statement_is v last s.number s.kind s.total s.fixes s.boxes (All-head HasItsFixes s said named) parts.0)
    (statements_are v (last_line last (claim_lines s)) said (All-tail HasItsFixes s said named) parts.1)

-- lines within a claim: more of its boxes, then claims, then the end
record Tail (lines : List Line) : Type 0 where
  boxes : List (List (ℕ × ℕ) × Why)
  others : List Statement
  each : All IsStatement others
  are : lines ≡ map box_line boxes ++ lines_of others

-- a claim before such lines
claim_tail : (v : Version) (last : Line) (number : List ℕ) (kind : ClaimKind) (total : Option ℕ) (fixes : List ℕ) (lines : List Line) → MatchOption total (fixes ≡ []) (λ _. Unit {0})
    → Follow (proof_grammar v) last (ClaimLine number kind total ∷ (fix_lines total fixes ++ lines)) → Tail lines → Tail (ClaimLine number kind total ∷ (fix_lines total fixes ++ lines))
claim_tail v last number kind total fixes lines named follow tail =
    let s : Statement = record { number = number; kind = kind; total = total; fixes = fixes; boxes = tail.boxes } in
    let front = ClaimLine number kind total ∷ fix_lines total fixes in
    let same : front ++ lines ≡ claim_lines s ++ lines_of tail.others = ap (λ (l : List Line). front ++ l) tail.are ∙ sym (append_assoc front (map box_line tail.boxes) (lines_of tail.others)) in
    let parts = follow_parts v last (claim_lines s) (lines_of tail.others) (subst (Follow (proof_grammar v) last) same follow) in
    record {
      boxes = [];
      others = s ∷ tail.others;
      each = All-cons IsStatement s tail.others (statement_is v last number kind total fixes tail.boxes named parts.0) tail.each;
      are = same ∙ sym (append_assoc (claim_lines s) (flat_map claim_lines tail.others) (EndLine ∷ []));
    }

within : (v : Version) (last : Line) (lines : List Line) → GoesOn last → Follow (proof_grammar v) last lines → last_line last lines ≡ EndLine → Tail lines
within v last [] on follow ends =
    absurd (false≢true (ap (λ (l : Line). may_follow l EndLine) (sym ends) ∙ on EndLine))
within v last (HeadingLine w ∷ lines) on follow ends = absurd (false≢true (sym (on (HeadingLine w)) ∙ follow.1))
within v last (FixLine fixes ∷ lines) on follow ends = absurd (false≢true (sym (on (FixLine fixes)) ∙ follow.1))
within v last (BoxLine why spans ∷ lines) on follow ends =
    let tail = within v (BoxLine why spans) lines (λ next. refl) follow.2 ends in
    record { boxes = (spans, why) ∷ tail.boxes; others = tail.others; each = tail.each; are = ap (λ (l : List Line). BoxLine why spans ∷ l) tail.are }
within v last (EndLine ∷ []) on follow ends = record { boxes = []; others = []; each = All-nil IsStatement; are = refl }
within v last (EndLine ∷ line ∷ lines) on follow ends = absurd (false≢true follow.2.1)
within v last (ClaimLine number kind None ∷ lines) on follow ends =
    claim_tail v last number kind None [] lines refl follow (within v (ClaimLine number kind None) lines (λ next. refl) follow.2 ends)
within v last (ClaimLine number kind (Some total) ∷ []) on follow ends = absurd (cc)
within v last (ClaimLine number kind (Some total) ∷ HeadingLine w ∷ lines) on follow ends = absurd (false≢true follow.2.1)
within v last (ClaimLine number kind (Some total) ∷ ClaimLine n k t ∷ lines) on follow ends = absurd (false≢true follow.2.1)
within v last (ClaimLine number kind (Some total) ∷ BoxLine why spans ∷ lines) on follow ends = absurd (false≢true follow.2.1)
within v last (ClaimLine number kind (Some total) ∷ EndLine ∷ lines) on follow ends = absurd (false≢true follow.2.1)
within v last (ClaimLine number kind (Some total) ∷ FixLine fixes ∷ lines) on follow ends =
    claim_tail v last number kind (Some total) fixes lines tt follow (within v (FixLine fixes) lines (λ next. refl) follow.2.2 ends)

-- no box is first, so none is there
no_boxes : (lines : List Line) (boxes : List (List (ℕ × ℕ) × Why)) (others : List Statement) → NoBoxFirst lines → lines ≡ map box_line boxes ++ lines_of others → lines ≡ lines_of others
no_boxes lines [] others first are = are
no_boxes lines (box ∷ boxes) others first are = absurd (subst NoBoxFirst are first)

-- behind the heading and claims
behind_claims : (v : Version) (said : List Statement) (more : List Line) → All IsStatement said → NoBoxFirst more → Follow (proof_grammar v) (last_line (HeadingLine v) (flat_map claim_lines said)) more
    → last_line (last_line (HeadingLine v) (flat_map claim_lines said)) more ≡ EndLine → (others : List Statement) × All IsStatement others × (more ≡ lines_of others)
behind_claims v (s ∷ said) more each first follow ends =
    let tail = within v _ more ((lines_follow v (s ∷ said) each).1 (omega arith)) follow ends in
    (tail.others, tail.each, no_boxes more tail.boxes tail.others first tail.are)
behind_claims v [] [] each first follow ends = absurd (cc)
behind_claims v [] (HeadingLine w ∷ lines) each first follow ends = absurd (false≢true follow.1)
behind_claims v [] (FixLine fixes ∷ lines) each first follow ends = absurd (false≢true follow.1)
behind_claims v [] (BoxLine why spans ∷ lines) each first follow ends = absurd (false≢true follow.1)
behind_claims v [] (EndLine ∷ lines) each first follow ends =
    let tail = within v (BoxLine Bound []) (EndLine ∷ lines) (λ next. refl) (follow.0, refl, follow.2) ends in
    (tail.others, tail.each, no_boxes (EndLine ∷ lines) tail.boxes tail.others tt tail.are)
behind_claims v [] (ClaimLine number kind total ∷ lines) each first follow ends =
    let tail = within v (BoxLine Bound []) (ClaimLine number kind total ∷ lines) (λ next. refl) (follow.0, refl, follow.2) ends in
    (tail.others, tail.each, no_boxes (ClaimLine number kind total ∷ lines) tail.boxes tail.others tt tail.are)

-- a whole text is that of the claims so far and of others
pub record Parsed (v : Version) (text : List ℕ) (said : List Statement) (more : List Line) : Type 0 where
  pub others : List Statement
  pub lines_are : more ≡ lines_of others
  pub is_text : IsTextOf v text (said ++ others)

Some-same : (a b : Line) → Some a ≡ Some b → a ≡ b
Some-same a b same = cc

pub whole_parsed : (v : Version) (text : List ℕ) (said : List Statement) (more : List Line) → All HasItsFixes said → NoBoxFirst more → IsWhole proof_rules text (lines_said v said more)
    → Parsed v text said more
whole_parsed v text said more named first whole =
    let claims = flat_map claim_lines said in
    let parts = follow_parts v (HeadingLine v) claims more whole.runs.begin.1 in
    let each = statements_are v (HeadingLine v) said named parts.0 in
    let ends = sym (last-append (HeadingLine v) claims more) ∙ Some-same _ _ whole.ended in
    let behind = behind_claims v said more each first parts.1 ends in
    let others = behind.0 in
    let lines : flat_map claim_lines said ++ more ≡ lines_of (said ++ others) =
    ap (λ (l : List Line). claims ++ l) behind.2 ∙ sym (append_assoc claims (flat_map claim_lines others) (EndLine ∷ []))
    ∙ ap (λ (l : List Line). l ++ EndLine ∷ []) (sym (flat_map-append claim_lines said others)) in
    record {
      others = others;
      lines_are = behind.2;
      is_text = record {
        each = All-append IsStatement said others each behind.1;
        is = whole.runs.is ∙ append-nil (spelled (lines_said v said more)) ∙ ap (λ (l : List Line). spelled (HeadingLine v ∷ l)) lines;
      };
    }
