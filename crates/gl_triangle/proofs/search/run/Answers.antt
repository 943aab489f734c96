use Rattle.gl_triangle.proofs.Nodes.{goes_on, top_node, work_falls}
use Rattle.gl_triangle.proofs.search.run.Goals as goal

pub visit-requires-clause-node : goal.visit-requires-clause-node
visit-requires-clause-node c = top_node c.args.goal.now c.args.order.now c.loop-node.best c.loop-node.nodes.items c.pop.new.self.items c.in-Some.node c.in-Some.ensures.items c.loop-node.invariant

pub loop-node-smaller : goal.loop-node-smaller
loop-node-smaller c =
    let visited = c.in_ok-visit.ensures.visited in
    work_falls c.args.goal.now c.args.order.now c.in-Some.node _ c.loop-node.nodes.items c.pop.new.self.items c.visit.new.nodes.items visited.added c.in-Some.ensures.items visited.on_top
    visited.replace

pub loop-node-preserved : goal.loop-node-preserved
loop-node-preserved c =
    let visited = c.in_ok-visit.ensures.visited in
    goes_on c.args.goal.now c.args.order.now c.loop-node.best c.visit.new.best c.loop-node.nodes.items c.pop.new.self.items c.visit.new.nodes.items visited.added c.in-Some.node c.in-Some.ensures.items
    visited.on_top c.loop-node.invariant c.in_ok-visit.ensures.sound c.in_ok-visit.ensures.grows visited.replace
