use Rattle.std.proofs.Common.{◌≡◌}
use Rattle.gl_why.specs.Code.Nearest.{IsNearestBefore}
use Rattle.gl_why.proofs.miss.nearest.Given as goal

-- the nearest so far
abbrev pub invariant-loop-i : goal.invariant-loop-i
invariant-loop-i l = record {
  nearest : IsNearestBefore l.fixes l.from l.i l.to l.best;
  point : l.best.point ≡ l.point;
}
