use Rattle.std.proofs.Common.{◌-◌, length}
use Rattle.gl_order.proofs.stretches.move_stretches.Given as goal

abbrev pub decreases-stretches : goal.decreases-stretches
decreases-stretches l = length l.stretches.items - l.index
