use Rattle.std.proofs.Common.{subst, ◌*◌, ◌-◌}
use Rattle.gl_points.specs.Fraction.{Fraction, ◌÷◌, ◌⊗◌, ◌⊘◌, ◌⊖◌, IsSame}
use Rattle.gl_points.specs.Worth.{worth}
use Rattle.gl_points.specs.Points.{share_of_speed}
use Rattle.gl_points.proofs.Parts.{share_same}
use Rattle.gl_points.proofs.Shares.{share_of_speed-some}
use Rattle.gl_points.proofs.points.speed_share.Goals as goal

pub returns-clause-same : goal.returns-clause-same
returns-clause-same c =
    let day = c.args.day.now in
    let speed = worth c.speed-speed.result in
    let greatest = worth day.speed in
    let made = (3 * (speed.num * greatest.den) - 2 * (speed.den * greatest.num)) ÷ (speed.den * greatest.num) in
    let same : IsSame made (share_of_speed day c.args.performance.now) =
    rw (share_of_speed-some day c.args.performance.now c.if-day-eq0.false)
    (subst (λ (s : Fraction). IsSame made ((s ⊖ (2 ÷ 3) ⊗ greatest) ⊘ ((1 ÷ 3) ⊗ greatest))) c.speed-speed.ensures.worth (share_same speed greatest)) in
    rw c.saturating_sub.ensures same
