use Rattle.std.proofs.Common.{take}
use Rattle.gl_goal.specs.Box.{IsLeastBox}
use Rattle.gl_goal.specs.Hull.{box_of}
use Rattle.gl_goal.proofs.table.hull_over.Given as goal

abbrev pub invariant-loop-place : goal.invariant-loop-place
invariant-loop-place l = IsLeastBox (box_of l.hull) (take l.place l.fixes)
