use Rattle.std.specs.Prelude.{All}
use Rattle.gl_goal.specs.Best.{IsSound}
use Rattle.gl_plain.proofs.warm.climb_each.Given as goal

abbrev pub invariant-loop-best : goal.invariant-loop-best
invariant-loop-best g l = record {
  kept : All (λ best. IsSound (g.G.Goal.rule l.goal) best) l.kept;
  legs : g.G.Goal.are_legs l.goal l.legs;
}
