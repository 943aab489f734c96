use Rattle.std.proofs.Common.{◌≡◌, ◌+◌, ◌*◌, ◌≤◌, drop}
use Rattle.gl_goal.specs.Chain.{legs}
use Rattle.gl_judge.specs.Marking.{course_of, finish_point}
use Rattle.gl_judge.proofs.Courses.{course_from}
use Rattle.gl_judge.proofs.marking.course_length.Given as goal

-- the legs that were added and those that are left are all of them
abbrev pub invariant-loop-zone : goal.invariant-loop-zone
invariant-loop-zone l = record {
  parted : l.length + legs (course_from l.last (drop l.zone-index l.task.zones) (finish_point l.task.finish)) ≡ legs (course_of l.task);
  short : l.length ≤ 7_460_377_693 * l.zone-index;
}
