use Rattle.gl_near.specs.Pairs.{pairing_of}
use Rattle.gl_near.specs.Certificate.{IsSound}
use Rattle.gl_near.proofs.climb.climb.Given as goal

abbrev pub invariant-loop-round : goal.invariant-loop-round
invariant-loop-round l = IsSound (pairing_of l.pairs) l.best
