use Rattle.std.proofs.Common.{◌-◌, ◌≤◌, length}
use Rattle.gl_order.proofs.stretches.stretches_of.Given as goal

abbrev pub invariant-stretches : goal.invariant-stretches
invariant-stretches g l = l.start ≤ length l.boxes

abbrev pub decreases-stretches : goal.decreases-stretches
decreases-stretches g l = length l.boxes - l.start
