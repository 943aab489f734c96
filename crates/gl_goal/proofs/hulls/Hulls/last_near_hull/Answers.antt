use Rattle.gl_goal.specs.Hull.{box_of}
use Rattle.gl_goal.proofs.Nearest.{whole-found}
use Rattle.gl_goal.proofs.hulls.Hulls.last_near_hull.Goals as goal

pub returns : goal.returns
returns c =
    let whole = c.whole.result in
    let span = c.args.span in
    whole-found c.args.self.now (box_of c.args.hull.now) c.args.limit whole.lo whole.hi span.lo span.hi _ c.whole.ensures.lo c.whole.ensures.hi c.requires c.last_near_in.ensures
