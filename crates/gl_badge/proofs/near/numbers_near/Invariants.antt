use Rattle.std.proofs.Common.{◌≡◌}
use Rattle.gl_badge.proofs.Nearby.{near_before}
use Rattle.gl_badge.proofs.near.numbers_near.Given as goal

abbrev pub invariant-loop-number : goal.invariant-loop-number
invariant-loop-number l = l.numbers.items ≡ near_before l.fixes l.point l.number
