use Rattle.std.proofs.Common.{map}
use Rattle.gl_badge.proofs.Nearby.{AreReachedBefore}
use Rattle.gl_badge.proofs.declared.course_through.Given as goal

abbrev pub invariant-loop-point : goal.invariant-loop-point
invariant-loop-point l =
    AreReachedBefore l.fixes l.fn.points.items l.point-index (map (λ list. list.items) l.lists.items)
