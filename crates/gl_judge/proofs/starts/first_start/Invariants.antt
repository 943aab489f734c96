use Rattle.std.proofs.Common.{ℕ, ◌<◌}
use Rattle.gl_judge.specs.Starts.{IsStart}
use Rattle.gl_judge.proofs.starts.first_start.Given as goal

abbrev pub invariant-loop-b : goal.invariant-loop-b
invariant-loop-b l =
    (b : ℕ) → b < l.b → IsStart l.start l.rec l.judged b → ⊥
