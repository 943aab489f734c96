use Rattle.std.proofs.Common.{◌≡◌, take}
use Rattle.gl_box.specs.Tuple.{places_of}
use Rattle.gl_goal.specs.Goal.{chosen}
use Rattle.gl_goal.proofs.numbers.fix_numbers.Given as goal

-- the numbers at the places so far
abbrev pub invariant-loop-axis : goal.invariant-loop-axis
invariant-loop-axis g l = l.numbers.items ≡ chosen (g.G.Goal.rule l.goal).axes (take l.axis (places_of l.tuple))
