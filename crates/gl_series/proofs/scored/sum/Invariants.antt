use Rattle.std.proofs.Common.{◌≡◌, ◌*◌, ◌≤◌, take}
use Rattle.std.specs.Prelude.{sum_by}
use Rattle.gl_series.proofs.scored.sum.Given as goal

abbrev pub invariant-loop-one : goal.invariant-loop-one
invariant-loop-one l = record {
  sum_is : l.sum ≡ sum_by (λ one. one.points) (take l.one-index l.scored);
  low : l.sum ≤ l.one-index * 1_000;
}
