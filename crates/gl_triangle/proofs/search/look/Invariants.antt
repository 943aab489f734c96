use Rattle.gl_triangle.specs.Code.Search.{IsUnderWay}
use Rattle.gl_triangle.specs.declared.order.Order.TheVariants.{InTime}
use Rattle.gl_triangle.proofs.search.look.Given as goal

abbrev pub invariant-loop : goal.invariant-loop
invariant-loop l = IsUnderWay l.goal InTime l.best l.nodes.items
