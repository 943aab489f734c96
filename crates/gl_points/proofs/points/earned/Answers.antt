use Rattle.std.proofs.Common.{◌∙◌}
use Rattle.gl_points.specs.Points.{exact_points}
use Rattle.gl_points.specs.Worth.{worth}
use Rattle.gl_points.proofs.Divided.{exact_points_above}
use Rattle.gl_points.proofs.Held.{some_distance}
use Rattle.gl_points.proofs.Orders.{rounded_same}
use Rattle.gl_points.proofs.points.earned.Goals as goal

pub returns-clause-points : goal.returns-clause-points
returns-clause-points c =
    let day = c.args.day.now in
    let p = c.args.performance.now in
    let above = exact_points_above day p c.requires.far (some_distance c.requires.part.list day c.requires.part.day_of c.requires.far) in
    c.rounded.ensures.rounded ∙ rounded_same (worth c.exact.result) (exact_points day p) c.exact.result.divides above c.exact.ensures.same
