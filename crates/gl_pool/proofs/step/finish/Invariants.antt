use Rattle.gl_pool.specs.Code.Trail.{IsOnTrail}
use Rattle.gl_pool.specs.Code.UnderWay.{GoesOn}
use Rattle.gl_pool.proofs.step.finish.Given as goal

abbrev pub invariant-loop : goal.invariant-loop
invariant-loop g l = record {
  on : GoesOn (g.G.Goal.rule l.goal) l.word l.initial.place l.place l.initial.seat l.seat l.initial.bench l.bench;
  legs : g.G.Goal.are_legs l.goal l.bench.legs.items;
  trail : IsOnTrail l.bench;
}
