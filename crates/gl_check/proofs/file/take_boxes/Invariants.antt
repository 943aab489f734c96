use Rattle.std.proofs.Common.{◌≡◌, ℕ, ◌++◌, List, None, map}
use Rattle.gl_answer.specs.FileLines.{left_of}
use Rattle.gl_box.specs.declared.closed.Why.{Why}
use Rattle.gl_check.specs.File.{GaveLines}
use Rattle.gl_check.specs.Testing.{HasTaken}
use Rattle.gl_desk.specs.Answers.{OnlyReads}
use Rattle.gl_proof.specs.Claim.{box_line}
use Rattle.gl_proof.specs.Line.{Line}
use Rattle.gl_check.proofs.file.take_boxes.Given as goal

-- the boxes so far are taken, and the desk was only read
abbrev pub invariant-boxes : goal.invariant-boxes
invariant-boxes g l = record {
  taken : (used : List Line) (before : List (List (ℕ × ℕ) × Why)) → GaveLines (g.D.Desk.told l.fn.desk).folder l.file l.most used l.fn.lines
      → HasTaken g.G.Goal.rule g.G.Goal.are_legs before l.fn.check
      → (boxes : List (List (ℕ × ℕ) × Why)) × HasTaken g.G.Goal.rule g.G.Goal.are_legs (before ++ boxes) l.check
      × GaveLines (g.D.Desk.told l.fn.desk).folder l.file l.most (used ++ map box_line boxes) l.lines;
  takes : (before : List (List (ℕ × ℕ) × Why)) × HasTaken g.G.Goal.rule g.G.Goal.are_legs before l.check;
  goal : l.check.test.goal.now ≡ l.fn.check.test.goal.now;
  total : l.check.test.total ≡ l.fn.check.test.total;
  reads : OnlyReads None (g.D.Desk.told l.fn.desk) (g.D.Desk.told l.desk);
}

abbrev pub decreases-boxes : goal.decreases-boxes
decreases-boxes g l = left_of l.most l.lines
