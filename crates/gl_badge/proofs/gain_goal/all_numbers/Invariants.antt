use Rattle.std.proofs.Common.{◌≡◌}
use Rattle.gl_goal.specs.Free.{numbers_from}
use Rattle.gl_badge.proofs.gain_goal.all_numbers.Given as goal

abbrev pub invariant-loop-number : goal.invariant-loop-number
invariant-loop-number l = l.numbers.items ≡ numbers_from 0 l.number
