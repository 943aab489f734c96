-- The lines of proofs, as they come one by one: what those of the code say, and where each leaves its reader.
use Rattle.std.specs.Prelude.{◌≡◌, Bool, true, false, Option, None, Some}
use Rattle.gl_proof.specs.LineRules.{LineRules}
use Rattle.gl_near.specs.Certificate.{box_of}
use Rattle.gl_near.specs.Line.{BoxLine, EndLine, HeadingLine, LeastLine, Line, PairLine, box_line, near_grammar}
use Rattle.gl_near.specs.declared.near_line.NearLine.{NearLine}
use Rattle.gl_near.specs.declared.near_line.NearLine.TheVariants.{Box, End, Heading, Least, Pair}
use Rattle.gl_near.specs.declared.near_line.NearPlace.{NearPlace}
use Rattle.gl_near.specs.declared.near_line.NearPlace.TheVariants.{Ended, Headed, Measured, Start, Within}

-- the lines of such proofs, all of which have the same heading
abbrev pub near_rules : LineRules Line
near_rules = record {
  spelling = near_grammar.spelling;
  IsLine = near_grammar.IsLine;
  may_follow = near_grammar.may_follow;
  IsHeading = λ line. line ≡ near_grammar.heading;
  last = near_grammar.last;
}

-- what a line of the code says
abbrev pub line_said : NearLine → Line
line_said Heading = HeadingLine
line_said (Least total) = LeastLine total
line_said (Pair first second) = PairLine first second
line_said (Box closed) = box_line (box_of closed)
line_said End = EndLine

-- where a reader stands behind a line, or at the beginning
abbrev pub place_after : Option Line → NearPlace
place_after None = Start
place_after (Some HeadingLine) = Headed
place_after (Some (LeastLine None)) = Within
place_after (Some (LeastLine (Some least))) = Measured
place_after (Some (PairLine first second)) = Within
place_after (Some (BoxLine why spans)) = Within
place_after (Some EndLine) = Ended

abbrev pub is_ended : NearPlace → Bool
is_ended Start = false
is_ended Headed = false
is_ended Measured = false
is_ended Within = false
is_ended Ended = true
