-- The lines of proofs have no LF within them, are short, and end with the end.
use Rattle.std.proofs.Common.{◌≡◌, ◌∙◌, sym, ap, refl, subst, ℕ, ◌+◌, ◌^◌, ◌<◌, ◌≤◌, true, List, [], ◌∷◌, ◌++◌, length, map, Option, Some, None, arith, inl, inr}
use Rattle.std.specs.Fmt.{decimal}
use Rattle.std.specs.List.{list_all}
use Rattle.std.specs.Prelude.{IsTrue, ◌↔◌, codes, nat_le}
use Rattle.std.proofs.lemmas.Bool.{false≢true}
use Rattle.std.proofs.lemmas.List.{length-append}
use Rattle.std.proofs.lemmas.List.Elements.{All-cons, All-nil, Contains-append_cases, Contains-append_right}
use Rattle.std.proofs.lemmas.List.Folds.{list_all_at}
use Rattle.gl_box.specs.declared.closed.Why.TheVariants.{Bound}
use Rattle.gl_proof.specs.Line as proof
use Rattle.gl_proof.specs.LineRefusal.{HasLine}
use Rattle.gl_proof.specs.LineRules.{AreLineRules, MayCome}
use Rattle.gl_proof.specs.Lemmas.ProofLines.{are_proof_lines}
use Rattle.gl_proof.specs.ProofLines.{proof_rules}
use Rattle.gl_proof.specs.Words.{spaced, span_word, total_word}
use Rattle.gl_proof.specs.declared.claim.ClaimKind.TheVariants.{Area}
use Rattle.gl_near.specs.Line.{BoxLine, EndLine, HeadingLine, IsLine, LeastLine, Line, PairLine, line_text}
use Rattle.gl_near.specs.NearLines.{is_ended, near_rules, place_after}
use Rattle.gl_near.specs.declared.found.NearWhy.TheVariants.{Time, Near}
use Rattle.gl_near.specs.declared.near_line.NearPlace.{NearPlace}

-- it has no LF and at most 1,023 bytes
record IsShort (text : List ℕ) : Type 0 where
  unbroken : ¬ HasLine text
  few : length text + 1 ≤ 1_024

printed : (text : List ℕ) → list_all (λ c. nat_le 32 c) text ≡ true → ¬ HasLine text
printed text pass has = absurd (false≢true (sym (list_all_at (λ c. nat_le 32 c) text has.0 10 has.1 (ap (λ c. nat_le 32 c) has.2)) ∙ pass))

-- a line that ends as one of the proofs of claims does
like_line : (front head tail : List ℕ) (last line : proof.Line) → list_all (λ c. nat_le 32 c) front ≡ true → length front ≤ length head → proof.line_text line ≡ head ++ tail
    → MayCome proof_rules (Some last) line → IsShort (front ++ tail)
like_line front head tail last line pass fewer is may = record {
  unbroken = λ has. elim (Contains-append_cases front tail 10 has) [
    | inl at ↦ printed front pass at
    | inr at ↦ are_proof_lines.unbroken (Some last) line may (subst HasLine (sym is) (Contains-append_right head tail 10 at))
  ];
  few = omega (arith, are_proof_lines.short (Some last) line may, ap length is, length-append front tail, length-append head tail, fewer);
}

-- a number of 32 bits
abbrev Fits : ℕ → Type 0
Fits number = number < 2 ^ 32

short_line : (line : Line) → IsLine line → IsShort (line_text line)
short_line HeadingLine is = record { unbroken = printed (line_text HeadingLine) refl; few = omega arith }
short_line (LeastLine total) is =
    like_line (codes "LEAST") (codes "CLAIM A AREA") (spaced (total_word total ∷ [])) (proof.BoxLine Bound []) (proof.ClaimLine (codes "A") Area total) refl (omega arith) refl ((refl, is), refl)
short_line (PairLine first second) is =
    like_line (codes "PAIR") (codes "FIX" ++ 32 ∷ decimal 0) (spaced (decimal first ∷ decimal second ∷ [])) (proof.ClaimLine (codes "A") Area (Some 0)) (proof.FixLine (0 ∷ first ∷ second ∷ []))
    refl (omega arith) refl (
      record {
        some = omega arith;
        most = omega arith;
        each = All-cons Fits 0 (first ∷ second ∷ []) (omega arith) (All-cons Fits first (second ∷ []) is.0 (All-cons Fits second [] is.1 (All-nil Fits)));
      },
      refl,
    )
short_line (BoxLine Time spans) is =
    like_line (codes "BOX T") (codes "BOX B") (spaced (map span_word spans)) (proof.BoxLine Bound []) (proof.BoxLine Bound spans) refl (omega arith) refl
    (record { some = omega (arith, is.two); most = omega (arith, is.two); each = is.each }, refl)
short_line (BoxLine Near spans) is =
    like_line (codes "BOX N") (codes "BOX B") (spaced (map span_word spans)) (proof.BoxLine Bound []) (proof.BoxLine Bound spans) refl (omega arith) refl
    (record { some = omega (arith, is.two); most = omega (arith, is.two); each = is.each }, refl)
short_line EndLine is = record { unbroken = printed (line_text EndLine) refl; few = omega arith }

is_line : (last : Option Line) (line : Line) → MayCome near_rules last line → IsLine line
is_line None line may = subst IsLine (sym may) tt
is_line (Some last) line may = may.0

ended_at : (last : Option Line) → IsTrue (is_ended (place_after last)) ↔ (last ≡ Some EndLine)
ended_at None = (λ false_. absurd (false≢true false_), λ same. absurd (cc))
ended_at (Some HeadingLine) = (λ false_. absurd (false≢true false_), λ same. absurd (cc))
ended_at (Some (LeastLine None)) = (λ false_. absurd (false≢true false_), λ same. absurd (cc))
ended_at (Some (LeastLine (Some least))) = (λ false_. absurd (false≢true false_), λ same. absurd (cc))
ended_at (Some (PairLine first second)) = (λ false_. absurd (false≢true false_), λ same. absurd (cc))
ended_at (Some (BoxLine why spans)) = (λ false_. absurd (false≢true false_), λ same. absurd (cc))
ended_at (Some EndLine) = (λ _. refl, λ _. refl)

pub are_near_lines : AreLineRules NearPlace Line near_rules (λ last place. place ≡ place_after last) is_ended
are_near_lines = record {
  unbroken = λ last line may. (short_line line (is_line last line may)).unbroken;
  short = λ last line may. (short_line line (is_line last line may)).few;
  ended = λ last place is. subst (λ (p : NearPlace). IsTrue (is_ended p) ↔ (last ≡ Some EndLine)) (sym is) (ended_at last);
}
