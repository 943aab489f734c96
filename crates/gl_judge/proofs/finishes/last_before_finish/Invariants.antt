use Rattle.std.proofs.Common.{ℕ, ◌≤◌, ℤ}
use Rattle.gl_judge.specs.Finishes.{IsAtFinish}
use Rattle.gl_judge.proofs.finishes.last_before_finish.Given as goal

abbrev pub invariant-loop-f : goal.invariant-loop-f
invariant-loop-f l =
    (f : ℕ) (time : ℤ) → l.f ≤ f
    → IsAtFinish l.finish l.rec.fixes l.judged f time → ⊥
