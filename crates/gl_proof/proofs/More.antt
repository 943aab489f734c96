-- What is read of a text as more of it comes.
use Rattle.std.proofs.Common.{◌≡◌, ◌∙◌, sym, ap, refl, ℕ, ◌+◌, ◌≤◌, List, [], ◌∷◌, ◌++◌, length, map, append_assoc, Option, arith}
use Rattle.std.specs.List.{flat_map}
use Rattle.std.specs.Prelude.{min}
use Rattle.std.proofs.lemmas.List.{append-nil}
use Rattle.std.proofs.lemmas.List.Concat.{flat_map-append}
use Rattle.std.proofs.lemmas.List.Elements.{All-push}
use Rattle.gl_box.specs.declared.closed.Why.{Why}
use Rattle.gl_proof.proofs.Refused.{told_on}
use Rattle.gl_proof.specs.declared.claim.ClaimKind.{ClaimKind}
use Rattle.gl_proof.specs.declared.version.Version.{Version}
use Rattle.gl_proof.specs.Claim.{IsStatement, Statement, box_line, claim_lines, claim_text, front_text, spelled}
use Rattle.gl_proof.specs.Line.{AreSpans, EndLine, HeadingLine, ended}
use Rattle.gl_proof.specs.Code.Passage.{IsClaimRead}
use Rattle.gl_proof.specs.Reading.{AreClaimsAt}
use Rattle.gl_proof.specs.Text.{IsTextOf}
use Rattle.gl_proof.proofs.Appended.{claim_text-parts}
use Rattle.gl_proof.proofs.Chain.{claims_more, length-claims_more}

abbrev HasSpans : List (ℕ × ℕ) × Why → Type 0
HasSpans box = AreSpans box.0

-- the heading alone
pub begun : (v : Version) (text rest : List ℕ) → text ≡ ended (HeadingLine v) ++ rest → AreClaimsAt v text [] rest 2
begun v text rest is = record {
  each = λ k d lt. absurd (omega arith);
  is = is ∙ ap (λ (l : List ℕ). l ++ rest) (sym (append-nil (ended (HeadingLine v))));
  counted = refl;
}

-- a claim more
pub claim_more : (v : Version) (whole : List ℕ) (said : List Statement) (s : Statement) (text rest : List ℕ) (line next : ℕ) → AreClaimsAt v whole said text line → IsClaimRead text line s rest next
    → AreClaimsAt v whole (said ++ s ∷ []) rest next
claim_more v whole said s text rest line next at read = record {
  each = All-push IsStatement said s at.each read.is_statement;
  is = claims_more v whole said text s rest at.is read.is;
  counted = told_on next line (length (flat_map claim_lines said) + 2) (length (claim_lines s)) read.counted at.counted
      ∙ ap (λ (n : ℕ). min n 4_294_967_295) (omega (arith, length-claims_more said s));
}

-- the lines up to the last claim, its lines before its boxes, and these
lines_end : (v : Version) (said : List Statement) (s : Statement) (rest : List ℕ)
    → spelled (HeadingLine v ∷ flat_map claim_lines (said ++ s ∷ [])) ++ rest ≡ spelled (HeadingLine v ∷ flat_map claim_lines said) ++ (front_text s ++ (spelled (map box_line s.boxes) ++ rest))
lines_end v said s rest =
    let all = spelled (HeadingLine v ∷ flat_map claim_lines said) in
    sym (claims_more v (all ++ (claim_text s ++ rest)) said (claim_text s ++ rest) s rest refl refl)
    ∙ ap (λ (l : List ℕ). all ++ l) (ap (λ (l : List ℕ). l ++ rest) (claim_text-parts s) ∙ append_assoc (front_text s) (spelled (map box_line s.boxes)) rest)

-- a claim with other boxes
abbrev pub with_boxes : List ℕ → ClaimKind → Option ℕ → List ℕ → List (List (ℕ × ℕ) × Why) → Statement
with_boxes number kind total fixes boxes = record { number = number; kind = kind; total = total; fixes = fixes; boxes = boxes }

-- the end behind the claims, and nothing behind it
pub text_ended : (v : Version) (whole : List ℕ) (said : List Statement) (rest after : List ℕ) (line : ℕ) → AreClaimsAt v whole said rest line → rest ≡ ended EndLine ++ after → length rest ≤ 4
    → IsTextOf v whole said
text_ended v whole said rest [] line at front short =
    let all = spelled (HeadingLine v ∷ flat_map claim_lines said) in
    record { each = at.each; is = at.is ∙ ap (λ (l : List ℕ). all ++ l) front ∙ sym (flat_map-append ended (HeadingLine v ∷ flat_map claim_lines said) (EndLine ∷ [])) }
text_ended v whole said rest (x ∷ xs) line at front short = absurd (omega (arith, ap length front, short))
