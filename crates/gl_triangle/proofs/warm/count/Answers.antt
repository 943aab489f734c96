use Rattle.std.proofs.Common.{ap, length, arith}
use Rattle.gl_triangle.proofs.Rounds.{length-fixes_of}
use Rattle.gl_triangle.proofs.warm.count.Goals as goal

pub returns-clause-some : goal.returns-clause-some
returns-clause-some c = omega (arith, ap length c.hulls.ensures, length-fixes_of c.args.goal.now)

pub returns-clause-most : goal.returns-clause-most
returns-clause-most c =
    let g = c.args.goal.now in
    omega (arith, ap length c.hulls.ensures, length-fixes_of g, g.within, g.at_most_90000)
