use Rattle.std.proofs.Common.{ℕ, ◌+◌, ◌-◌, ◌≤◌, List, None}
use Rattle.gl_desk.specs.Answers.{OnlyReads}
use Rattle.gl_answer.specs.FileLines.{HasLines, left_of}
use Rattle.gl_answer.proofs.file_lines.next_line_read.Given as goal

-- what was read gave no line more, and the desk was only read
abbrev pub invariant-pieces : goal.invariant-pieces
invariant-pieces g l = record {
  same : (text : List ℕ) (said : List g.L.TextLine.Says) → HasLines g.L.TextLine.rules g.L.TextLine.is_place (g.D.Desk.told l.fn.desk).folder l.name l.most text said l.fn.lines
      → (more : List ℕ) × HasLines g.L.TextLine.rules g.L.TextLine.is_place (g.D.Desk.told l.fn.desk).folder l.name l.most more said l.lines;
  fewer : left_of l.most l.lines ≤ left_of l.most l.fn.lines;
  reads : OnlyReads None (g.D.Desk.told l.fn.desk) (g.D.Desk.told l.desk);
}

abbrev pub decreases-pieces : goal.decreases-pieces
decreases-pieces g l = l.most + 1 - l.lines.count
