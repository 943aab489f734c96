use Rattle.std.proofs.Common.{ℕ, ◌<◌, ℤ}
use Rattle.gl_judge.specs.Finishes.{IsFinish}
use Rattle.gl_judge.proofs.finishes.first_finish.Given as goal

abbrev pub invariant-loop-f : goal.invariant-loop-f
invariant-loop-f l =
    (f : ℕ) (time : ℤ) → f < l.f
    → IsFinish l.finish l.rec.fixes l.judged l.visited f time → ⊥
