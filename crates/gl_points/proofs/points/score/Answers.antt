use Rattle.std.proofs.Common.{sym, subst, ℕ}
use Rattle.gl_points.specs.Fraction.{IsNearest}
use Rattle.gl_points.specs.Points.{exact_points}
use Rattle.gl_points.proofs.Ahead.{ahead_of_shorter, ahead_of_slower, below_finishers}
use Rattle.gl_points.proofs.AnyOrder.{same_in_any_order}
use Rattle.gl_points.proofs.Divided.{exact_points_above}
use Rattle.gl_points.proofs.Held.{some_distance}
use Rattle.gl_points.proofs.Orders.{rounded_nearest}
use Rattle.gl_points.proofs.points.score.Goals as goal

pub returns-clause-nearest : goal.returns-clause-nearest
returns-clause-nearest c = λ launched far.
    let day = c.args.day.now in
    let p = c.args.performance.now in
    subst (λ (n : ℕ). IsNearest (exact_points day p) n) (sym c.earned.ensures.points)
    (rounded_nearest (exact_points day p) (exact_points_above day p far (some_distance c.requires.list day c.requires.day_of far)))

pub returns-clause-below_finishers : goal.returns-clause-below_finishers
returns-clause-below_finishers c = below_finishers c.args.day.now c.args.performance.now

pub returns-clause-ahead_of_slower : goal.returns-clause-ahead_of_slower
returns-clause-ahead_of_slower c = ahead_of_slower c.args.day.now c.args.performance.now

pub returns-clause-ahead_of_shorter : goal.returns-clause-ahead_of_shorter
returns-clause-ahead_of_shorter c = ahead_of_shorter c.args.day.now c.args.performance.now

pub returns-then-not-performance-clause-any_order :
    goal.returns-then-not-performance-clause-any_order
returns-then-not-performance-clause-any_order c = same_in_any_order c.args.day.now c.args.performance.now

pub returns-clause-any_order : goal.returns-clause-any_order
returns-clause-any_order c = same_in_any_order c.args.day.now c.args.performance.now
