use Rattle.gl_box.specs.Cell.{ends}
use Rattle.gl_goal.specs.Hull.{box_of}
use Rattle.gl_goal.proofs.Nearest.{box_of_point-found, whole-found}
use Rattle.gl_goal.proofs.hulls.Hulls.last_near.Goals as goal

pub returns : goal.returns
returns c =
    let whole = c.whole.result in
    let span = c.args.span in
    let box = box_of c.point-from.result in
    let found = whole-found c.args.self.now box c.args.limit whole.lo whole.hi span.lo span.hi _ c.whole.ensures.lo c.whole.ensures.hi c.requires c.last_near_in.ensures in
    box_of_point-found c.args.self.now box c.args.point c.args.limit (ends span) _ c.point-from.ensures found
