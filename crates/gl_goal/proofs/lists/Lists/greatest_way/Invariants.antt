use Rattle.gl_box.specs.Cell.{spans_of}
use Rattle.gl_goal.specs.Hull.{box_of}
use Rattle.gl_goal.specs.Chain.{hulls_of}
use Rattle.gl_goal.proofs.Listed.{IsGreatestWay}
use Rattle.gl_goal.proofs.lists.Lists.greatest_way.Given as goal

abbrev pub invariant-loop-axis : goal.invariant-loop-axis
invariant-loop-axis l =
    IsGreatestWay (box_of l.fn.start) (hulls_of l.self.fixes l.self.lists (spans_of l.cell)) l.axis l.length (box_of l.end)
