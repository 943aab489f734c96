use Rattle.std.specs.Prelude.{IfSome}
use Rattle.gl_triangle.specs.Code.Node.{fixes_of}
use Rattle.gl_triangle.specs.Code.Places.{AreAmong}
use Rattle.gl_triangle.proofs.trial.try_seconds.Given as goal

abbrev pub invariant-loop-index : goal.invariant-loop-index
invariant-loop-index l = IfSome l.chosen (λ it. AreAmong (fixes_of l.goal) it.places)
