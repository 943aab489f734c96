use Rattle.std.proofs.Common.{◌≤◌, arith}
use Rattle.gl_sphere.proofs.Arcs.{written_distance-mono}
use Rattle.gl_free.proofs.beaten.is_beaten.Goals as goal

pub returns-then-most-found-2-clause-none : goal.returns-then-most-found-2-clause-none
returns-then-most-found-2-clause-none c beaten some =
    let less : c.args.most.chord ≤ c.args.found.now.chord = omega arith in
    omega (arith, c.requires, written_distance-mono c.args.most.chord c.args.found.now.chord less)
