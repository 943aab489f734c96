use Rattle.gl_free.proofs.HalfLemmas.{arm-shorter}
use Rattle.gl_free.proofs.half.Half.bound.Goals as goal

pub returns : goal.returns
returns c = arm-shorter c.args.hulls.now c.args.by_place.now c.args.self.now c.target_at-target.result c.args.middle c.bound.result c.requires.half c.target_at-target.ensures.number
    c.target_at-target.ensures.side c.bound.ensures
