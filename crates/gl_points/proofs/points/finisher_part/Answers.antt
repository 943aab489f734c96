use Rattle.std.proofs.Common.{sym, subst}
use Rattle.gl_points.specs.Fraction.{Fraction, ◌⊗◌, IsSame}
use Rattle.gl_points.specs.Worth.{worth}
use Rattle.gl_points.specs.Points.{points_of_finisher, most_for_speed, most_for_distance, share_of_speed}
use Rattle.gl_points.proofs.Parts.{finisher_same}
use Rattle.gl_points.proofs.points.finisher_part.Goals as goal

pub returns-clause-same : goal.returns-clause-same
unfolding points_of_finisher most_for_speed most_for_distance
returns-clause-same c =
    let day = c.args.day.now in
    let p = c.args.performance.now in
    subst (λ (part : Fraction). IsSame (worth day.most ⊗ part) (points_of_finisher day p)) (sym c.whole_distance_and.ensures.worth)
    (finisher_same (worth day.most) (worth c.speed_share.result) (share_of_speed day p) day.fast day.launched day.fast_at_most c.speed_share.ensures.same)
