use Rattle.gl_demo.proofs.DrawLemmas.{after-after, drawn-after}
use Rattle.gl_demo.specs.Place.{moved_place}
use Rattle.gl_demo.proofs.place.move_place.Goals as goal

pub returns-clause-moved : goal.returns-clause-moved
unfolding moved_place
returns-clause-moved c = let e = drawn-after 1 c.args.draws.now.value 0 12_001 in cc

pub returns-clause-after : goal.returns-clause-after
returns-clause-after c = let e = after-after 1 1 c.args.draws.now.value in cc
