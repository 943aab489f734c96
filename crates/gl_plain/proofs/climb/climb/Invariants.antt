use Rattle.std.proofs.Common.{◌≤◌}
use Rattle.gl_goal.specs.Best.{IsSound}
use Rattle.gl_plain.proofs.climb.climb.Given as goal

abbrev pub invariant-loop-turn : goal.invariant-loop-turn
invariant-loop-turn g l = record {
  sound : IsSound (g.G.Goal.rule l.goal) l.best;
  legs : g.G.Goal.are_legs l.goal l.legs;
  idle : l.idle ≤ l.turn;
}
