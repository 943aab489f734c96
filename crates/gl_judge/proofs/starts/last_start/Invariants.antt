use Rattle.std.proofs.Common.{ℕ, ◌≤◌}
use Rattle.gl_judge.specs.Starts.{IsStart}
use Rattle.gl_judge.proofs.starts.last_start.Given as goal

abbrev pub invariant-loop-b : goal.invariant-loop-b
invariant-loop-b l =
    (b : ℕ) → l.b ≤ b → b ≤ l.limit → IsStart l.start l.rec l.judged b → ⊥
