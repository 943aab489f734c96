-- Which lines may stand at a place of a proof.
use Rattle.std.specs.Prelude.{◌≡◌, ℕ, Bool, true, false, List, ◌++◌}
use Rattle.gl_near.specs.Line.{HeadingLine, IsLine, LeastLine, Line, PairLine, ended, goes_on}
use Rattle.gl_near.specs.declared.near_line.NearPlace.{NearPlace}
use Rattle.gl_near.specs.declared.near_line.NearPlace.TheVariants.{Ended, Headed, Measured, Start, Within}

abbrev pub may_stand : NearPlace → Line → Bool
may_stand Start HeadingLine = true
may_stand Start other = false
may_stand Headed (LeastLine total) = true
may_stand Headed other = false
may_stand Measured (PairLine first second) = true
may_stand Measured other = false
may_stand Within line = goes_on line
may_stand Ended line = false

-- a line that may stand at a place is at the front of a text
abbrev pub StandsAt : NearPlace → List ℕ → Line → List ℕ → Type 0
StandsAt place text line rest =
    IsLine line × (may_stand place line ≡ true) × (text ≡ ended line ++ rest)
