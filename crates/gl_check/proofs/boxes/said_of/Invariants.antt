use Rattle.std.proofs.Common.{◌≡◌, ◌++◌, ℕ, List, length}
use Rattle.gl_box.specs.declared.closed.Why.{Why}
use Rattle.gl_box.specs.InLists.{boxes_in, still_in}
use Rattle.gl_check.specs.Testing.{HasTaken}
use Rattle.gl_check.proofs.boxes.said_of.Given as goal

-- the check has taken some boxes, and the others are still to come
abbrev pub invariant-boxes : goal.invariant-boxes
invariant-boxes g l = record {
  goal : l.check.test.goal.now ≡ l.goal;
  total : l.check.test.total ≡ l.fn.total;
  taking : (done : List (List (ℕ × ℕ) × Why)) × HasTaken g.G.Goal.rule g.G.Goal.are_legs done l.check × (done ++ still_in l.boxes ≡ boxes_in l.cells);
}

abbrev pub decreases-boxes : goal.decreases-boxes
decreases-boxes g l = length (still_in l.boxes)
