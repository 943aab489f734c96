use Rattle.std.proofs.Common.{◌≤◌}
use Rattle.gl_sphere.specs.Code.Series.{IsSummed}
use Rattle.gl_sphere.proofs.sine.wsin.Given as goal

abbrev pub invariant-loop-pair : goal.invariant-loop-pair
invariant-loop-pair l = (l.pair ≤ 5) × IsSummed l.n l.pair l.series
