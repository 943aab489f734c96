use Rattle.std.proofs.Common.{ℕ, ◌≤◌, ◌<◌}
use Rattle.gl_judge.specs.Visits.{IsInZone}
use Rattle.gl_judge.proofs.visits.first_in_zone.Given as goal

abbrev pub invariant-loop-i : goal.invariant-loop-i
invariant-loop-i l =
    (i : ℕ) → l.from ≤ i → i < l.i → IsInZone l.fixes l.fn.judged l.zone i → ⊥
