use Rattle.gl_triangle.proofs.Cells.{among_tuple}
use Rattle.gl_triangle.proofs.warm.warm_start.Goals as goal

pub consider-requires-clause-fits : goal.consider-requires-clause-fits
consider-requires-clause-fits c = among_tuple c.args.goal.now c.in_ok-places.places c.in_ok-places.ensures
