use Rattle.std.proofs.Common.{sym, arith}
use Rattle.gl_near.proofs.pairs.FlightAndPlace.distance.Goals as goal

pub returns : goal.returns
returns c = record { fix = c.fix.result.now; there = c.fix.ensures; only = omega arith; is = sym c.distance_of.ensures }
