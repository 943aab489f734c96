use Rattle.std.proofs.Common.{◌≡◌, length}
use Rattle.gl_box.specs.Along.{boxes_left}
use Rattle.gl_box.proofs.along.WalkBoxes.next.Given as goal

-- no box was passed yet
abbrev pub invariant-turns : goal.invariant-turns
invariant-turns g l = boxes_left g.T.Turn.reason l.initial.self ≡ boxes_left g.T.Turn.reason l.self

abbrev pub decreases-turns : goal.decreases-turns
decreases-turns g l = length l.self.turns.now
