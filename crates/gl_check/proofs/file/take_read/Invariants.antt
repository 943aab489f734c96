use Rattle.std.proofs.Common.{◌≡◌, ◌≤◌, ℕ, ◌++◌, List, Option, map}
use Rattle.gl_answer.specs.FileLines.{left_of}
use Rattle.gl_box.specs.declared.closed.Why.{Why}
use Rattle.gl_check.specs.File.{GaveLines}
use Rattle.gl_check.specs.Testing.{HasTaken}
use Rattle.gl_desk.specs.Desk.{FilesByName}
use Rattle.gl_proof.specs.Claim.{box_line}
use Rattle.gl_proof.specs.Line.{Line}
use Rattle.gl_check.proofs.file.take_read.Given as goal

-- the boxes so far are taken
abbrev pub invariant-boxes : goal.invariant-boxes
invariant-boxes g l = record {
  taken : (folder : Option FilesByName) (file : List ℕ) (most : ℕ) (used : List Line) (before : List (List (ℕ × ℕ) × Why)) → GaveLines folder file most used l.fn.lines
      → HasTaken g.G.Goal.rule g.G.Goal.are_legs before l.fn.check
      → (boxes : List (List (ℕ × ℕ) × Why)) × HasTaken g.G.Goal.rule g.G.Goal.are_legs (before ++ boxes) l.check
      × GaveLines folder file most (used ++ map box_line boxes) l.lines;
  takes : (before : List (List (ℕ × ℕ) × Why)) × HasTaken g.G.Goal.rule g.G.Goal.are_legs before l.check;
  test : l.check.test ≡ l.fn.check.test;
  shorter : (most : ℕ) → left_of most l.lines ≤ left_of most l.fn.lines;
}

abbrev pub decreases-boxes : goal.decreases-boxes
decreases-boxes g l = left_of 0 l.lines
