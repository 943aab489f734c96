use Rattle.std.proofs.Common.{subst, sym, arith, cond}
use Rattle.gl_points.specs.Fraction.{Fraction, ◌⊗◌, IsSame}
use Rattle.gl_points.specs.Points.{exact_points, day_factor, completion_factor, points_of_finisher, points_of_outlanding}
use Rattle.gl_points.specs.Worth.{worth}
use Rattle.gl_points.proofs.Held.{some_distance, within_distance, within_speed}
use Rattle.gl_points.proofs.Orders.{times_same}
use Rattle.gl_points.proofs.points.exact.Goals as goal

pub part-requires-clause-some : goal.part-requires-clause-some
part-requires-clause-some c = some_distance c.requires.part.list c.args.day.now c.requires.part.day_of c.requires.far

pub part-requires-clause-distance : goal.part-requires-clause-distance
part-requires-clause-distance c = within_distance c.requires.part.list c.args.day.now c.args.performance.now c.requires.part.day_of c.requires.part.among c.requires.launched

pub part-requires-clause-speed : goal.part-requires-clause-speed
part-requires-clause-speed c = within_speed c.requires.part.list c.args.day.now c.args.performance.now c.requires.part.day_of c.requires.part.among

pub returns-clause-same : goal.returns-clause-same
unfolding exact_points
returns-clause-same c =
    let day = c.args.day.now in
    let p = c.args.performance.now in
    let factor = worth c.factor.result in
    let most = worth day.most in
    let share = worth c.part.result in
    let written = cond p.finished (points_of_finisher day p) (points_of_outlanding day p) in
    let same : IsSame (factor ⊗ (most ⊗ share)) (day_factor day ⊗ completion_factor day ⊗ written) =
    times_same factor (day_factor day ⊗ completion_factor day) (most ⊗ share) written c.factor.ensures.same c.part.ensures.same in
    let grouped : IsSame (factor ⊗ most ⊗ share) (exact_points day p) = omega (arith, same) in
    subst (λ (made : Fraction). IsSame made (exact_points day p)) (sym c.product.ensures.worth) grouped
