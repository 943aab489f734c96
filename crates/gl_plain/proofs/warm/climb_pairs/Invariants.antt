use Rattle.gl_goal.specs.Best.{IsSound}
use Rattle.gl_plain.proofs.warm.climb_pairs.Given as goal

abbrev pub invariant-loop : goal.invariant-loop
invariant-loop g l = record {
  greatest : IsSound (g.G.Goal.rule l.goal) l.greatest;
  legs : g.G.Goal.are_legs l.goal l.legs;
}
