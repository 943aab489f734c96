use Rattle.std.proofs.Common.{ℕ, ◌-◌, ◌<◌, ◌≤◌, [], length, get_or}
use Rattle.gl_goal.specs.Goal.{fix_at}
use Rattle.gl_check.proofs.choice.place_of.Given as goal

-- the fixes at lower places come earlier, and those at higher ones later
abbrev pub invariant-halves : goal.invariant-halves
invariant-halves g l =
    let axes = (g.G.Goal.rule l.goal).axes in
    record {
      order : l.low ≤ l.high;
      within : l.high ≤ length (get_or axes l.axis []);
      below : (k : ℕ) → k < l.low → fix_at axes l.axis k < l.fix;
      above : (k : ℕ) → l.high ≤ k → k < length (get_or axes l.axis []) → l.fix < fix_at axes l.axis k;
    }

abbrev pub decreases-halves : goal.decreases-halves
decreases-halves g l = l.high - l.low
