use Rattle.gl_triangle.specs.Code.Search.{IsUnderWay}
use Rattle.gl_triangle.proofs.Nodes.{work_of}
use Rattle.gl_triangle.proofs.search.run.Given as goal

abbrev pub invariant-loop-node : goal.invariant-loop-node
invariant-loop-node l = IsUnderWay l.goal l.order l.best l.nodes.items

-- the work that the open nodes can still make
abbrev pub decreases-loop-node : goal.decreases-loop-node
decreases-loop-node l = work_of l.nodes.items
