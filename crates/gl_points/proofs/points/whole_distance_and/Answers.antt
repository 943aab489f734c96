use Rattle.std.proofs.Common.{arith}
use Rattle.gl_points.proofs.Parts.{part_low}
use Rattle.gl_points.proofs.points.whole_distance_and.Goals as goal

pub returns-clause-at_most_one : goal.returns-clause-at_most_one
returns-clause-at_most_one c = part_low c.from-for_speed.result c.from-whole.result c.args.share.now.num c.args.share.now.den (omega (arith, c.args.day.now.fast_at_most)) c.requires.at_most_one
