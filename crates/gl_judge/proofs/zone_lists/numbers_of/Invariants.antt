use Rattle.std.proofs.Common.{◌≡◌, ◌-◌}
use Rattle.gl_goal.specs.Free.{numbers_from}
use Rattle.gl_judge.proofs.zone_lists.numbers_of.Given as goal

abbrev pub invariant-loop-i : goal.invariant-loop-i
invariant-loop-i l = l.numbers.items ≡ numbers_from l.fn.stretch.from (l.i - l.fn.stretch.from)
