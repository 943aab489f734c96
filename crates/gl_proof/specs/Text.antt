-- The text of a proof, and what is no such text.
use Rattle.std.specs.Prelude.{◌≡◌, ℕ, List, [], ◌∷◌, ◌++◌, map, All}
use Rattle.std.specs.List.{flat_map}
use Rattle.gl_proof.specs.declared.proof.Proof.{Proof}
use Rattle.gl_proof.specs.declared.version.Version.{Version}
use Rattle.gl_proof.specs.Line.{Line, HeadingLine, EndLine}
use Rattle.gl_proof.specs.Claim.{IsStatement, Statement, claim_lines, spelled, statement_of}

-- the lines of a proof behind its heading
abbrev pub lines_of : List Statement → List Line
lines_of statements = flat_map claim_lines statements ++ EndLine ∷ []

-- the text of a proof of a version
abbrev pub proof_text : Version → List Statement → List ℕ
proof_text version statements = spelled (HeadingLine version ∷ lines_of statements)

-- what the claims of a proof state
abbrev pub statements_of : Proof → List Statement
statements_of proof = map statement_of proof.claims.items

-- a text is the text, of this version, of statements that have one
pub record IsTextOf (version : Version) (text : List ℕ) (statements : List Statement)
    : Type 0 where
  pub each : All IsStatement statements
  pub is : text ≡ proof_text version statements
