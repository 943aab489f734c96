use Rattle.std.proofs.Common.{ℕ, ◌≤◌}
use Rattle.gl_judge.specs.Visits.{IsInZone}
use Rattle.gl_judge.proofs.visits.last_in_zone.Given as goal

abbrev pub invariant-loop-i : goal.invariant-loop-i
invariant-loop-i l =
    (i : ℕ) → l.i ≤ i → i ≤ l.limit → IsInZone l.fixes l.fn.judged l.zone i → ⊥
