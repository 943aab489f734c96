use Rattle.std.proofs.Common.{◌*◌, ◌≤◌, filter, take}
use Rattle.gl_points.specs.Figures.{IsGreatestFigure, handicapped_distance}
use Rattle.gl_points.specs.Limits.{distance_limit, handicap_limit}
use Rattle.gl_points.specs.Fraction.{◌÷◌}
use Rattle.gl_points.proofs.passes.greatest_distance.Given as goal

abbrev pub invariant-loop-p : goal.invariant-loop-p
invariant-loop-p l = record {
  greatest :
      IsGreatestFigure (handicapped_distance l.least) (filter (λ p. p.launched) (take l.p-index l.list))
      (l.greatest.0 ÷ l.greatest.1.0);
  divides : 1 ≤ l.greatest.1.0;
  num : l.greatest.0 ≤ distance_limit * handicap_limit;
  den : l.greatest.1.0 ≤ handicap_limit;
}
