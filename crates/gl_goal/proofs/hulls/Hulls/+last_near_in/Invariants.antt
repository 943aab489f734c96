use Rattle.std.proofs.Common.{◌-◌}
use Rattle.gl_goal.proofs.hulls.Hulls.+last_near_in.Given as goal

abbrev pub decreases-last_near_in : goal.decreases-last_near_in
decreases-last_near_in l = l.node.hi - l.node.lo
