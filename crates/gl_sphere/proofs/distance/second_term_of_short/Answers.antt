use Rattle.std.proofs.Common.{refl}
use Rattle.gl_sphere.proofs.Arcs.{second_term_of-short}
use Rattle.gl_sphere.proofs.distance.second_term_of_short.Goals as goal

pub returns : goal.returns
returns c = second_term_of-short c.args.chord _ refl
