use Rattle.std.proofs.Common.{◌+◌, ◌*◌, arith}
use Rattle.gl_sphere.proofs.Quick.{next_term-near}
use Rattle.gl_sphere.proofs.quick_sine.next_term.Goals as goal

pub returns-clause-near : goal.returns-clause-near
returns-clause-near c t s t_in s_in near_square near =
    next_term-near t s c.args.term c.args.square ((2 * c.args.k + 2) * (2 * c.args.k + 3))
    c.inverse.result c.high_half.result c.high_half-2.result t_in s_in (omega arith)
    c.ranges.square.fits c.inverse.type_inv c.inverse.ensures c.high_half.ensures
    c.high_half-2.ensures near_square near
