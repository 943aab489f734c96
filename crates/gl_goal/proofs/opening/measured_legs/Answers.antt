use Rattle.std.proofs.Common.{sym, subst, List, arith}
use Rattle.std.proofs.lemmas.Result.{IfOk-weaker}
use Rattle.gl_goal.specs.declared.leg.Leg.{Leg}
use Rattle.gl_goal.proofs.opening.measured_legs.Goals as goal

pub returns : goal.returns
returns g c =
    IfOk-weaker c.vec.result _ _ (λ legs made.
    subst (λ (items : List Leg). g.G.Goal.are_legs c.args.goal.now items) (sym (made (λ y same. same))) (c.leg.ensures 4_096 (omega arith)))
    c.vec.ensures.items_if_clones_equal
