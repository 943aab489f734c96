use Rattle.gl_near.specs.Pairs.{pairing_of}
use Rattle.gl_near.specs.Certificate.{IsSound}
use Rattle.gl_near.proofs.warm.pair_by_time.Given as goal

abbrev pub invariant-loop-first : goal.invariant-loop-first
invariant-loop-first l = IsSound (pairing_of l.pairs) l.best
