use Rattle.std.proofs.Common.{◌≤◌}
use Rattle.gl_triangle.specs.Code.Node.{fixes_of}
use Rattle.gl_triangle.specs.Code.Places.{AreAmong}
use Rattle.gl_triangle.proofs.warm.climb.Given as goal

abbrev pub invariant-loop : goal.invariant-loop
invariant-loop l = record { among : AreAmong (fixes_of l.goal) l.best.places; step : l.step ≤ l.len }
