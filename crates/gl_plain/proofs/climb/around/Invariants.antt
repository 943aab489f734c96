use Rattle.gl_box.specs.Cell.{Covers, spans_of}
use Rattle.gl_goal.specs.Goal.{whole_cell}
use Rattle.gl_plain.proofs.climb.around.Given as goal

abbrev pub invariant-loop-axis : goal.invariant-loop-axis
invariant-loop-axis g l = Covers (whole_cell (g.G.Goal.rule l.goal).axes) (spans_of l.cell)
