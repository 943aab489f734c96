use Rattle.std.proofs.Common.{◌≤◌}
use Rattle.gl_near.proofs.Squares.{HasSquare, NoneLess}
use Rattle.gl_near.proofs.nearest.nearest_fix.Given as goal

-- the nearest of the fixes so far
abbrev pub invariant-loop-number : goal.invariant-loop-number
invariant-loop-number l = record {
  has : HasSquare l.flight l.point l.least l.first;
  none : NoneLess l.flight l.point l.least l.number;
  small : l.least ≤ 4_870_756_920_000_000_000;
}
