use Rattle.gl_box.specs.Tuple.{places_of}
use Rattle.gl_goal.specs.Goal.{chosen}
use Rattle.gl_goal.proofs.Listed.{IsSameOrder}
use Rattle.gl_goal.proofs.lists.Lists.are_in_order.Given as goal

abbrev pub invariant-loop-axis : goal.invariant-loop-axis
invariant-loop-axis l = IsSameOrder (chosen l.self.lists (places_of l.tuple)) l.before l.axis
