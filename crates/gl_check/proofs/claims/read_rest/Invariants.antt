use Rattle.std.proofs.Common.{List, ◌++◌, None}
use Rattle.gl_answer.specs.FileLines.{left_of}
use Rattle.gl_check.specs.File.{GaveLines}
use Rattle.gl_desk.specs.Answers.{OnlyReads}
use Rattle.gl_proof.specs.Line.{Line}
use Rattle.gl_check.proofs.claims.read_rest.Given as goal

-- the lines so far came, and the desk was only read
abbrev pub invariant-lines : goal.invariant-lines
invariant-lines g l = record {
  came : (used : List Line) → GaveLines (g.D.Desk.told l.fn.desk).folder l.file l.most used l.fn.lines
      → (more : List Line) × GaveLines (g.D.Desk.told l.fn.desk).folder l.file l.most (used ++ more) l.lines;
  reads : OnlyReads None (g.D.Desk.told l.fn.desk) (g.D.Desk.told l.desk);
}

abbrev pub decreases-lines : goal.decreases-lines
decreases-lines g l = left_of l.most l.lines
