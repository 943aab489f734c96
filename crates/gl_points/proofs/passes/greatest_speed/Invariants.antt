use Rattle.std.proofs.Common.{◌*◌, ◌≤◌, filter, take}
use Rattle.gl_points.specs.Figures.{IsGreatestFigure, handicapped_speed}
use Rattle.gl_points.specs.Limits.{distance_limit, handicap_limit, time_limit}
use Rattle.gl_points.specs.Fraction.{◌÷◌}
use Rattle.gl_points.proofs.passes.greatest_speed.Given as goal

abbrev pub invariant-loop-p : goal.invariant-loop-p
invariant-loop-p l = record {
  greatest :
      IsGreatestFigure (handicapped_speed l.least) (filter (λ p. p.finished) (take l.p-index l.list))
      (l.greatest.0 ÷ l.greatest.1.0);
  divides : 1 ≤ l.greatest.1.0;
  num : l.greatest.0 ≤ distance_limit * handicap_limit;
  den : l.greatest.1.0 ≤ handicap_limit * time_limit;
}
