use Rattle.std.proofs.Common.{◌++◌, ◌∷◌, [], map}
use Rattle.gl_goal.proofs.Listed.{IsWay}
use Rattle.gl_judge.specs.Marking.{finish_point}
use Rattle.gl_judge.proofs.course.legs_to.Given as goal

abbrev pub invariant-loop-zone : goal.invariant-loop-zone
invariant-loop-zone l =
    IsWay l.task.start.line.centre (map (λ zone. zone.centre) l.task.zones ++ finish_point l.task.finish ∷ []) l.zone-index l.length l.last
