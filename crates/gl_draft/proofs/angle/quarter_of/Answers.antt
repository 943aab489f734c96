use Rattle.std.proofs.Common.{arith}
use Rattle.std.proofs.lemmas.Int.{ints}
use Rattle.gl_draft.proofs.Quarters.{before_east, before_round, before_south, before_west, behind_east, behind_north, behind_south, behind_west}
use Rattle.gl_draft.proofs.angle.quarter_of.Goals as goal

pub returns-then-east-ge0-clause-reached : goal.returns-then-east-ge0-clause-reached
returns-then-east-ge0-clause-reached c = behind_north c.args.direction.north c.args.direction.east
    (omega (arith, ints, c.if-east-ge0.true, c.args.direction.north_in_range.0, c.args.direction.north_in_range.1, c.args.direction.east_in_range.0, c.args.direction.east_in_range.1))

pub returns-then-east-ge0-clause-next : goal.returns-then-east-ge0-clause-next
returns-then-east-ge0-clause-next c = before_east c.args.direction.north c.args.direction.east
    (omega (arith, ints, c.if-north-gt0.true, c.args.direction.north_in_range.0, c.args.direction.north_in_range.1, c.args.direction.east_in_range.0, c.args.direction.east_in_range.1))

pub returns-then-east-gt0-clause-reached : goal.returns-then-east-gt0-clause-reached
returns-then-east-gt0-clause-reached c = behind_east c.args.direction.north c.args.direction.east
    (omega (arith, ints, c.if-north-le0.true, c.args.direction.north_in_range.0, c.args.direction.north_in_range.1, c.args.direction.east_in_range.0, c.args.direction.east_in_range.1))

pub returns-then-east-gt0-clause-next : goal.returns-then-east-gt0-clause-next
returns-then-east-gt0-clause-next c = before_south c.args.direction.north c.args.direction.east
    (omega (arith, ints, c.if-east-gt0.true, c.args.direction.north_in_range.0, c.args.direction.north_in_range.1, c.args.direction.east_in_range.0, c.args.direction.east_in_range.1))

pub returns-then-east-le0-clause-reached : goal.returns-then-east-le0-clause-reached
returns-then-east-le0-clause-reached c = behind_south c.args.direction.north c.args.direction.east
    (omega (arith, ints, c.if-east-le0.true, c.args.direction.north_in_range.0, c.args.direction.north_in_range.1, c.args.direction.east_in_range.0, c.args.direction.east_in_range.1))

pub returns-then-east-le0-clause-next : goal.returns-then-east-le0-clause-next
returns-then-east-le0-clause-next c = before_west c.args.direction.north c.args.direction.east
    (omega (arith, ints, c.if-north-lt0.true, c.args.direction.north_in_range.0, c.args.direction.north_in_range.1, c.args.direction.east_in_range.0, c.args.direction.east_in_range.1))

pub returns-then-east-lt0-clause-reached : goal.returns-then-east-lt0-clause-reached
returns-then-east-lt0-clause-reached c = behind_west c.args.direction.north c.args.direction.east
    (omega (arith, ints, c.if-north-ge0.true, c.args.direction.north_in_range.0, c.args.direction.north_in_range.1, c.args.direction.east_in_range.0, c.args.direction.east_in_range.1))

pub returns-then-east-lt0-clause-next : goal.returns-then-east-lt0-clause-next
returns-then-east-lt0-clause-next c = before_round c.args.direction.north c.args.direction.east
    (omega (arith, ints, c.if-east-lt0.true, c.args.direction.north_in_range.0, c.args.direction.north_in_range.1, c.args.direction.east_in_range.0, c.args.direction.east_in_range.1))
