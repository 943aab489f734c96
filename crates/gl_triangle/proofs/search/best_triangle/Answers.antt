use Rattle.gl_goal.specs.TriangleGoal.{triangle_rule}
use Rattle.gl_goal.proofs.Totals.{none_exactly}
use Rattle.gl_triangle.specs.declared.order.Order.TheVariants.{InTime}
use Rattle.gl_triangle.proofs.Nodes.{ends}
use Rattle.gl_triangle.proofs.search.best_triangle.Goals as goal

pub returns-else-not-branch-clause-optimum : goal.returns-else-not-branch-clause-optimum
returns-else-not-branch-clause-optimum c =
    ends c.args.goal.now InTime c.look.new.best tt (c.in_ok-look.ensures.done (cc c.if-not-branch.false))

pub returns-else-not-branch-clause-none : goal.returns-else-not-branch-clause-none
returns-else-not-branch-clause-none c =
    none_exactly (triangle_rule c.args.goal.now) c.look.new.best (returns-else-not-branch-clause-optimum c)
