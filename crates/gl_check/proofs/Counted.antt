-- A text has more bytes than claims.
use Rattle.std.proofs.Common.{◌≡◌, ◌∙◌, ap, ℕ, ◌+◌, ◌≤◌, List, [], ◌∷◌, ◌++◌, length, map, arith}
use Rattle.std.specs.List.{flat_map}
use Rattle.std.proofs.lemmas.List.{length-append}
use Rattle.std.proofs.lemmas.List.Concat.{flat_map-append}
use Rattle.gl_proof.specs.Claim.{Statement, box_line, claim_lines, fix_lines, spelled}
use Rattle.gl_proof.specs.Line.{ClaimLine, EndLine, HeadingLine, Line, ended, line_text}
use Rattle.gl_proof.specs.Text.{IsTextOf, lines_of}
use Rattle.gl_proof.specs.declared.version.Version.{Version}

-- a line has its LF
one_at_least : (line : Line) (lines : List Line) → 1 ≤ length (spelled (line ∷ lines))
one_at_least line lines = omega (arith, length-append (ended line) (spelled lines), length-append (line_text line) (10 ∷ []))

-- a claim has a line
claims_counted : (statements : List Statement) → length statements ≤ length (spelled (flat_map claim_lines statements))
claims_counted [] = omega arith
claims_counted (s ∷ statements) =
    let rest = flat_map claim_lines statements in
    let parts : spelled (claim_lines s ++ rest) ≡ spelled (claim_lines s) ++ spelled rest = flat_map-append ended (claim_lines s) rest in
    omega (
      arith,
      ap length parts,
      length-append (spelled (claim_lines s)) (spelled rest),
      one_at_least (ClaimLine s.number s.kind s.total)
          (fix_lines s.total s.fixes ++ map box_line s.boxes),
      claims_counted statements,
    )

pub statements_fit : (version : Version) (text : List ℕ) (statements : List Statement) → IsTextOf version text statements → length statements + 1 ≤ length text
statements_fit version text statements is =
    let claims = flat_map claim_lines statements in
    let heading = ended (HeadingLine version) in
    let parts : spelled (lines_of statements) ≡ spelled claims ++ spelled (EndLine ∷ []) = flat_map-append ended claims (EndLine ∷ []) in
    omega (
      arith,
      ap length is.is,
      length-append heading (spelled (lines_of statements)),
      length-append (line_text (HeadingLine version)) (10 ∷ []),
      ap length parts,
      length-append (spelled claims) (spelled (EndLine ∷ [])),
      claims_counted statements,
    )
