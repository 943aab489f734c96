-- The lines of proofs: which may follow which, and what those of the code say.
use Rattle.std.specs.Prelude.{◌≡◌, ℕ, Bool, true, false, List, [], ◌∷◌, ◌++◌, Option, None, Some}
use Rattle.gl_box.specs.Closed.{box_of}
use Rattle.gl_box.specs.declared.closed.Why.{Why}
use Rattle.gl_proof.specs.Claim.{box_line}
use Rattle.gl_proof.specs.Line.{BoxLine, ClaimLine, EndLine, FixLine, HeadingLine, IsLine, Line, line_text, may_follow}
use Rattle.gl_proof.specs.LineRules.{LineRules}
use Rattle.gl_proof.specs.declared.proof_place.ProofPlace.{ProofPlace}
use Rattle.gl_proof.specs.declared.proof_place.ProofPlace.TheVariants.{Claimed, Ended, Headed, Start, Within}
use Rattle.gl_proof.specs.declared.said_line.ProofLine.{ProofLine}
use Rattle.gl_proof.specs.declared.said_line.ProofLine.TheVariants.{Box, Claim, End, Fixes, Heading}
use Rattle.gl_proof.specs.declared.version.Version.{Version}

-- the lines of the proofs of any version
abbrev pub proof_rules : LineRules Line
proof_rules = record {
  spelling = line_text;
  IsLine = IsLine;
  may_follow = may_follow;
  IsHeading = λ line. (version : Version) × (line ≡ HeadingLine version);
  last = EndLine;
}

-- what a line of the code says
abbrev pub line_said : ProofLine → Line
line_said (Heading version) = HeadingLine version
line_said (Claim number kind total) = ClaimLine number kind total
line_said (Fixes fixes) = FixLine fixes.items
line_said (Box closed) = box_line (box_of closed)
line_said End = EndLine

-- where a reader stands behind a line, or at the beginning
abbrev pub place_after : Option Line → ProofPlace
place_after None = Start
place_after (Some (HeadingLine version)) = Headed
place_after (Some (ClaimLine number kind None)) = Within
place_after (Some (ClaimLine number kind (Some total))) = Claimed
place_after (Some (FixLine fixes)) = Within
place_after (Some (BoxLine why spans)) = Within
place_after (Some EndLine) = Ended

abbrev pub is_ended : ProofPlace → Bool
is_ended Start = false
is_ended Headed = false
is_ended Claimed = false
is_ended Within = false
is_ended Ended = true

-- lines, and behind them that of a box with these spans, where it has a reason
abbrev pub with_box : List Line → List (ℕ × ℕ) → Option Why → List Line
with_box lines spans None = lines
with_box lines spans (Some why) = lines ++ box_line (spans, why) ∷ []
