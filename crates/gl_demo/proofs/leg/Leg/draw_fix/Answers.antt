use Rattle.gl_demo.proofs.DrawLemmas.{after-after, drawn-after}
use Rattle.gl_demo.specs.Leg.{fix_place}
use Rattle.gl_demo.proofs.leg.Leg.draw_fix.Goals as goal

pub returns-clause-place : goal.returns-clause-place
unfolding fix_place
returns-clause-place c = let e = drawn-after 1 c.args.draws.now.value 0 200 in cc

pub returns-clause-after : goal.returns-clause-after
returns-clause-after c = let e = after-after 1 1 c.args.draws.now.value in cc
