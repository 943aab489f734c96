use Rattle.gl_box.specs.Tuple.{places_of}
use Rattle.gl_goal.specs.Chain.{fixes_at, points_of}
use Rattle.gl_goal.specs.Goal.{chosen}
use Rattle.gl_goal.proofs.Listed.{IsWay}
use Rattle.gl_goal.proofs.lists.Lists.way.Given as goal

abbrev pub invariant-loop-axis : goal.invariant-loop-axis
invariant-loop-axis l =
    IsWay l.fn.start (points_of (fixes_at l.self.fixes (chosen l.self.lists (places_of l.tuple)))) l.axis l.length l.end
