-- What is read of a proof, claim by claim.
use Rattle.std.specs.Prelude.{◌≡◌, ℕ, ◌+◌, min, List, ◌∷◌, ◌++◌, length, All}
use Rattle.std.specs.List.{flat_map}
use Rattle.gl_proof.specs.declared.version.Version.{Version}
use Rattle.gl_proof.specs.Line.{HeadingLine}
use Rattle.gl_proof.specs.Claim.{IsStatement, Statement, claim_lines, spelled}

-- The heading of a version and the lines of some claims begin a text, and the rest is left. The
-- line that follows has this number.
pub record AreClaimsAt (version : Version) (text : List ℕ) (said : List Statement) (rest : List ℕ)
    (line : ℕ) : Type 0 where
  pub each : All IsStatement said
  pub is : text ≡ spelled (HeadingLine version ∷ flat_map claim_lines said) ++ rest
  pub counted : line ≡ min (length (flat_map claim_lines said) + 2) 4_294_967_295
