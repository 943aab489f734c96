use Rattle.std.proofs.Common.{List, None}
use Rattle.gl_answer.specs.FileLines.{left_of}
use Rattle.gl_answer.specs.FileTests.{most_proof_bytes}
use Rattle.gl_desk.specs.Answers.{OnlyReads}
use Rattle.gl_flights.specs.Code.NearFiles.{GaveLines}
use Rattle.gl_near.specs.Line.{Line}
use Rattle.gl_near.specs.LineCheck.{HasTakenLines}
use Rattle.gl_near.specs.Pairs.{pairing_of}
use Rattle.gl_flights.proofs.near_file.check_near_file.Given as goal

-- the lines so far came and were taken, and the desk was only read
abbrev pub invariant-lines : goal.invariant-lines
invariant-lines g l = record {
  taken : (given : List Line) × GaveLines (g.D.Desk.told l.fn.desk).folder l.file given l.lines × HasTakenLines (pairing_of l.pairs) given l.check;
  reads : OnlyReads None (g.D.Desk.told l.fn.desk) (g.D.Desk.told l.desk);
}

abbrev pub decreases-lines : goal.decreases-lines
decreases-lines g l = left_of most_proof_bytes l.lines
