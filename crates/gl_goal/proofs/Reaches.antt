-- To where a flight closes, by its reach.
use Rattle.std.proofs.Common.{ℕ, ◌≤◌, List, arith}
use Rattle.std.specs.Prelude.{◌↔◌}
use Rattle.gl_igc.specs.declared.fix.Fix.{Fix}
use Rattle.gl_goal.specs.Reach.{Closes, IsReach}

-- what closes still does from a later place, or to an earlier one
pub Closes-mono : (fixes : List Fix) (closing a later c earlier : ℕ) → a ≤ later → earlier ≤ c → Closes fixes closing a c → Closes fixes closing later earlier
Closes-mono fixes closing a later c earlier forth back closes = record {
  from = closes.from;
  to = closes.to;
  start = closes.start;
  finish = closes.finish;
  start_is = closes.start_is;
  finish_is = closes.finish_is;
  from_in = omega (arith, closes.from_in);
  to_in = omega (arith, closes.to_in);
  near = closes.near;
}

-- a flight closes to the places up to its reach, and to no other
pub closes_within_reach : (fixes : List Fix) (closing a reach c : ℕ) → IsReach fixes closing a reach → Closes fixes closing a c ↔ (c ≤ reach)
closes_within_reach fixes closing a reach c is =
    (is.greatest c, λ within. Closes-mono fixes closing a a reach c (omega arith) within is.closes)
