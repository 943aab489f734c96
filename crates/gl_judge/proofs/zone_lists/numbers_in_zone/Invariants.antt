use Rattle.std.proofs.Common.{◌≡◌}
use Rattle.gl_judge.specs.Choices.{numbers_in_zone}
use Rattle.gl_judge.proofs.zone_lists.numbers_in_zone.Given as goal

abbrev pub invariant-loop-i : goal.invariant-loop-i
invariant-loop-i l = l.numbers.items ≡ numbers_in_zone l.fixes l.fn.stretch.from l.i l.zone
