-- The lines of a proof whose claims come one by one.
use Rattle.std.specs.Prelude.{◌≡◌, List, [], ◌∷◌, ◌++◌, MatchOption}
use Rattle.std.specs.List.{flat_map}
use Rattle.gl_proof.specs.Claim.{Statement, claim_lines}
use Rattle.gl_proof.specs.Line.{BoxLine, HeadingLine, Line}
use Rattle.gl_proof.specs.declared.version.Version.{Version}

-- the heading, the lines of some claims, and others
abbrev pub lines_said : Version → List Statement → List Line → List Line
lines_said version said more = HeadingLine version ∷ (flat_map claim_lines said ++ more)

-- there are fixes only where there is a total
abbrev pub HasItsFixes : Statement → Type 0
HasItsFixes statement = MatchOption statement.total (statement.fixes ≡ []) (λ _. Unit {0})

-- lines that begin with no box
abbrev pub NoBoxFirst : List Line → Type 0
NoBoxFirst [] = Unit {0}
NoBoxFirst (BoxLine why spans ∷ lines) = ⊥
NoBoxFirst (line ∷ lines) = Unit {0}
