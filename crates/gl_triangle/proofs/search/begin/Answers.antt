use Rattle.gl_triangle.proofs.Nodes.{begins}
use Rattle.gl_triangle.proofs.search.begin.Goals as goal

pub returns : goal.returns
returns c =
    begins c.args.goal.now c.args.order.now c.args.best.now c.whole.result c.worth.result c.in_ok-nodes.nodes.items c.push_some.new.nodes.items c.in_ok-nodes.ensures.items c.in_ok-push_some.ensures
    c.worth.ensures c.requires.sound c.whole.ensures.node c.whole.ensures.whole c.whole.ensures.none
