use Rattle.std.proofs.Common.{◌≡◌, ◌-◌}
use Rattle.gl_goal.specs.Free.{numbers_from}
use Rattle.gl_goal.proofs.numbers.numbers_between.Given as goal

abbrev pub invariant-loop-number : goal.invariant-loop-number
invariant-loop-number l = l.numbers.items ≡ numbers_from l.first (l.number - l.first)
