use Rattle.std.proofs.Common.{◌≡◌, ◌-◌, ◌<◌, ◌≤◌, ℕ, length, get_or, MatchOption}
use Rattle.gl_goal.specs.Code.Round.{IsNoneBehind}
use Rattle.gl_goal.specs.Reach.{IsReach}
use Rattle.gl_goal.proofs.reach.reaches.Given as goal

abbrev pub invariant-loop-place : goal.invariant-loop-place
invariant-loop-place l = record {
  sized : length l.reaches.items ≡ l.place;
  each : (k : ℕ) → k < l.place → IsReach l.hulls l.closing k (get_or l.reaches.items k 0);
  before : MatchOption l.before (l.place ≡ 0) (IsReach l.hulls l.closing (l.place - 1));
  ahead : l.place ≤ l.next;
  within : l.end < length l.hulls;
  none : (k : ℕ) → l.place ≤ k → k < l.next → IsNoneBehind l.hulls l.closing l.end k;
}
