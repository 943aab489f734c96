use Rattle.std.proofs.Common.{refl, arith}
use Rattle.std.proofs.lemmas.Bool.{ltb-true}
use Rattle.gl_free.proofs.WayLemmas.{within-two}
use Rattle.gl_free.proofs.beaten.is_within.Goals as goal

pub returns : goal.returns
returns c less = within-two c.args.chord c.args.distance _ (omega arith) refl (ltb-true c.args.chord _ less)
