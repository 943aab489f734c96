-- The text of a proof is the texts of its claims between its heading and its end.
use Rattle.std.proofs.Common.{◌≡◌, ◌∙◌, sym, ap, refl, ℕ, List, [], ◌∷◌, ◌++◌, append_assoc}
use Rattle.std.specs.List.{flat_map}
use Rattle.std.proofs.lemmas.List.Concat.{flat_map-append}
use Rattle.gl_proof.specs.Claim.{Statement, claim_lines, claim_text}
use Rattle.gl_proof.specs.Line.{EndLine, HeadingLine, Line, ended}
use Rattle.gl_proof.specs.Text.{proof_text}
use Rattle.gl_proof.specs.declared.version.Version.{Version}

lines-text : (statements : List Statement) (rest : List Line) → flat_map ended (flat_map claim_lines statements ++ rest) ≡ flat_map claim_text statements ++ flat_map ended rest
lines-text [] rest = refl
lines-text (s ∷ statements) rest =
    ap (flat_map ended) (append_assoc (claim_lines s) (flat_map claim_lines statements) rest)
    ∙ flat_map-append ended (claim_lines s) (flat_map claim_lines statements ++ rest)
    ∙ ap (λ (l : List ℕ). claim_text s ++ l) (lines-text statements rest)
    ∙ sym (append_assoc (claim_text s) (flat_map claim_text statements) (flat_map ended rest))

-- the heading, the texts of the claims one after another, and the end
pub proof_text-parts : (version : Version) (statements : List Statement) → proof_text version statements ≡ ended (HeadingLine version) ++ (flat_map claim_text statements ++ ended EndLine)
proof_text-parts version statements =
    ap (λ (l : List ℕ). ended (HeadingLine version) ++ l) (lines-text statements (EndLine ∷ []))

-- claims that follow others add their texts
pub claim_texts-append : (front back : List Statement) → flat_map claim_text (front ++ back) ≡ flat_map claim_text front ++ flat_map claim_text back
claim_texts-append front back = flat_map-append claim_text front back
