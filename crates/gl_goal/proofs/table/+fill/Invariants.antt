use Rattle.std.proofs.Common.{◌-◌}
use Rattle.gl_goal.proofs.table.+fill.Given as goal

abbrev pub decreases-fill : goal.decreases-fill
decreases-fill l = l.span.hi - l.span.lo
