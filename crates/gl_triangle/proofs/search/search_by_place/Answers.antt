use Rattle.std.proofs.Common.{ap, length, subst, List, arith}
use Rattle.std.proofs.lemmas.Result.{on_ok_weaker}
use Rattle.gl_igc.specs.declared.fix.Fix.{Fix}
use Rattle.gl_places.specs.ByPlace.{IsByPlace}
use Rattle.gl_triangle.specs.declared.order.Order.TheVariants.{ByPlace}
use Rattle.gl_triangle.proofs.Nodes.{ends}
use Rattle.gl_triangle.proofs.Rounds.{at_most_90000, length-fixes_of}
use Rattle.gl_triangle.proofs.search.search_by_place.Goals as goal

pub new-requires-clause-some : goal.new-requires-clause-some
new-requires-clause-some c = omega (arith, ap length c.hulls.ensures, length-fixes_of c.args.goal.now)

pub new-requires-clause-few : goal.new-requires-clause-few
new-requires-clause-few c = omega (arith, ap length c.hulls.ensures, at_most_90000 c.args.goal.now)

pub begin-requires-clause-order : goal.begin-requires-clause-order
begin-requires-clause-order c = subst (λ (fixes : List Fix). IsByPlace fixes c.in_ok-new.field-0) c.hulls.ensures c.in_ok-new.ensures

pub run-requires-clause-order : goal.run-requires-clause-order
run-requires-clause-order c = subst (λ (fixes : List Fix). IsByPlace fixes c.in_ok-new.field-0) c.hulls.ensures c.in_ok-new.ensures

pub returns-clause-optimum : goal.returns-clause-optimum
returns-clause-optimum c =
    let is = subst (λ (fixes : List Fix). IsByPlace fixes c.in_ok-new.field-0) c.hulls.ensures c.in_ok-new.ensures in
    on_ok_weaker c.run.result (λ way. ends c.args.goal.now (ByPlace c.in_ok-new.field-0) c.run.new.best is way) c.run.ensures
