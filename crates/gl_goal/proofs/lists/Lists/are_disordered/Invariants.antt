use Rattle.gl_goal.proofs.Listed.{first_fix, last_fix}
use Rattle.gl_goal.proofs.Seen.{IsSeen}
use Rattle.gl_goal.proofs.lists.Lists.are_disordered.Given as goal

abbrev pub invariant-loop-axis : goal.invariant-loop-axis
invariant-loop-axis l =
    IsSeen (first_fix l.self.lists l.cell) (last_fix l.self.lists l.cell) l.axis l.latest
