use Rattle.gl_points.specs.Summary.{launched_of}
use Rattle.gl_points.proofs.Least.{handicap_low}
use Rattle.gl_points.proofs.passes.least_handicap.Goals as goal

pub returns-clause-at_most : goal.returns-clause-at_most
returns-clause-at_most c = rw (c.unwrap_or.ensures, c.least_of_launched.ensures) (handicap_low (launched_of c.args.list.now))
