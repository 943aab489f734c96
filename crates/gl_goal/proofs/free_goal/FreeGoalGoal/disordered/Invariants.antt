use Rattle.gl_box.specs.Cell.{spans_of}
use Rattle.gl_goal.proofs.Seen.{IsSeen}
use Rattle.gl_goal.proofs.FreeSeen.{begins, closes}
use Rattle.gl_goal.proofs.free_goal.FreeGoalGoal.disordered.Given as goal

abbrev pub invariant-loop-span : goal.invariant-loop-span
invariant-loop-span l = IsSeen (begins (spans_of l.cell)) (closes (spans_of l.cell)) l.span-index l.latest
