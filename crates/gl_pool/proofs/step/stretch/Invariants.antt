use Rattle.gl_pool.specs.Code.Trail.{IsOnTrail}
use Rattle.gl_pool.specs.Code.UnderWay.{Steps}
use Rattle.gl_pool.proofs.step.stretch.Given as goal

abbrev pub invariant-loop : goal.invariant-loop
invariant-loop g l = record {
  on : Steps (g.G.Goal.rule l.goal) l.word l.initial.seat l.seat l.initial.bench l.bench;
  legs : g.G.Goal.are_legs l.goal l.bench.legs.items;
  trail : IsOnTrail l.bench;
}
