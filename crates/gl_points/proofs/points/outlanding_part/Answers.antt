use Rattle.std.proofs.Common.{sym, subst, ◌*◌, ◌-◌}
use Rattle.gl_points.specs.Fraction.{Fraction, ◌÷◌, ◌⊗◌, IsSame}
use Rattle.gl_points.specs.Worth.{worth}
use Rattle.gl_points.specs.Points.{points_of_outlanding, most_for_speed, most_for_distance}
use Rattle.gl_points.proofs.Parts.{outlanding_same}
use Rattle.gl_points.proofs.points.outlanding_part.Goals as goal

pub returns-clause-same : goal.returns-clause-same
unfolding points_of_outlanding most_for_speed most_for_distance
returns-clause-same c =
    let day = c.args.day.now in
    let p = c.args.performance.now in
    subst (λ (part : Fraction). IsSame (worth day.most ⊗ part) (points_of_outlanding day p)) (sym c.of_distance.ensures.worth)
    (subst (λ (share : Fraction). IsSame (worth day.most ⊗ (((3 * day.launched - 2 * day.fast) * c.distance_share.result.num) ÷ (3 * day.launched * c.distance_share.result.den)))
    (most_for_distance day ⊗ share)) c.distance_share.ensures.worth
    (outlanding_same (worth day.most) (worth c.distance_share.result) day.fast day.launched day.fast_at_most))
