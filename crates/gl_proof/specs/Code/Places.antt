-- Which lines may stand at a place of a proof.
use Rattle.std.specs.Prelude.{◌≡◌, ℕ, Bool, true, false, List, ◌++◌}
use Rattle.gl_proof.specs.Line.{ClaimLine, EndLine, FixLine, HeadingLine, IsLine, Line, ended, goes_on}
use Rattle.gl_proof.specs.declared.proof_place.ProofPlace.{ProofPlace}
use Rattle.gl_proof.specs.declared.proof_place.ProofPlace.TheVariants.{Claimed, Ended, Headed, Start, Within}

abbrev pub may_stand : ProofPlace → Line → Bool
may_stand Start (HeadingLine version) = true
may_stand Start other = false
may_stand Headed (ClaimLine number kind total) = true
may_stand Headed EndLine = true
may_stand Headed other = false
may_stand Claimed (FixLine fixes) = true
may_stand Claimed other = false
may_stand Within line = goes_on line
may_stand Ended line = false

-- a line that may stand at a place is at the front of a text
abbrev pub StandsAt : ProofPlace → List ℕ → Line → List ℕ → Type 0
StandsAt place text line rest =
    IsLine line × (may_stand place line ≡ true) × (text ≡ ended line ++ rest)
