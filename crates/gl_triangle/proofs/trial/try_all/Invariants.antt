use Rattle.std.specs.Prelude.{IfSome}
use Rattle.gl_triangle.specs.Code.Node.{fixes_of}
use Rattle.gl_triangle.specs.Code.Places.{AreAmong}
use Rattle.gl_triangle.proofs.trial.try_all.Given as goal

abbrev pub invariant-loop-first : goal.invariant-loop-first
invariant-loop-first l = IfSome l.chosen (λ it. AreAmong (fixes_of l.goal) it.places)
