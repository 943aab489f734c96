use Rattle.std.specs.Prelude.{Contains, IfSome, Some}
use Rattle.gl_plain.proofs.warm.best_below.Given as goal

abbrev pub invariant-loop-best : goal.invariant-loop-best
invariant-loop-best l = IfSome l.found (λ found. Contains l.kept (Some found))
