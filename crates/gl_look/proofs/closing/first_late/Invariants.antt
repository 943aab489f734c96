use Rattle.std.proofs.Common.{ℕ, ◌<◌, ℤ}
use Rattle.gl_look.specs.Closings.{IsLateFinish}
use Rattle.gl_look.proofs.closing.first_late.Given as goal

-- no fix so far is a late finish
abbrev pub invariant-loop-f : goal.invariant-loop-f
invariant-loop-f l = (f : ℕ) (time : ℤ) → f < l.f → IsLateFinish l.task l.rec.fixes l.last f time → ⊥
