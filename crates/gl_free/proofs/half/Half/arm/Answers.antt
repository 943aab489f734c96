use Rattle.gl_free.proofs.HalfLemmas.{found-arm}
use Rattle.gl_free.proofs.half.Half.arm.Goals as goal

pub returns-clause-arm : goal.returns-clause-arm
returns-clause-arm c = found-arm c.args.hulls.now c.args.by_place.now c.args.self.now c.target_at-target.result c.args.middle c.args.floor c.longest-found.result c.index.result.now c.requires.half
    c.target_at-target.ensures.number c.target_at-target.ensures.side c.longest-found.ensures.found c.longest-found.ensures.above c.index.ensures
