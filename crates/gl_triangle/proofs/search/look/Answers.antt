use Rattle.gl_triangle.specs.declared.order.Order.TheVariants.{InTime}
use Rattle.gl_triangle.proofs.Nodes.{goes_on, top_node}
use Rattle.gl_triangle.proofs.search.look.Goals as goal

pub visit-requires-clause-node : goal.visit-requires-clause-node
visit-requires-clause-node c = top_node c.args.goal.now InTime c.loop.best c.loop.nodes.items c.pop.new.self.items c.in-Some.node c.in-Some.ensures.items c.loop.invariant

pub loop-preserved : goal.loop-preserved
loop-preserved c =
    let visited = c.in_ok-visit.ensures.visited in
    goes_on c.args.goal.now InTime c.loop.best c.visit.new.best c.loop.nodes.items c.pop.new.self.items c.visit.new.nodes.items visited.added c.in-Some.node c.in-Some.ensures.items visited.on_top
    c.loop.invariant c.in_ok-visit.ensures.sound c.in_ok-visit.ensures.grows visited.replace
