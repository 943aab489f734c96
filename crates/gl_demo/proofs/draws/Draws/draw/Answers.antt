use Rattle.gl_demo.proofs.DrawLemmas.{after-one, drawn-first}
use Rattle.gl_demo.proofs.draws.Draws.draw.Goals as goal

pub returns-clause-drawn : goal.returns-clause-drawn
returns-clause-drawn c = let e = drawn-first c.args.self.now.value c.args.bound in cc

pub returns-clause-after : goal.returns-clause-after
returns-clause-after c = let e = after-one c.args.self.now.value in cc
