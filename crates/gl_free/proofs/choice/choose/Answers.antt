use Rattle.std.proofs.Common.{ap, sym, refl, subst, arith}
use Rattle.gl_goal.specs.FreeGoal.{rule_of}
use Rattle.gl_goal.specs.Goal.{IsLegal, IsTuple, value}
use Rattle.gl_free.proofs.ChoiceLemmas.{chosen-worth, illegal-low, order-tuple}
use Rattle.gl_free.proofs.choice.choose.Goals as goal

pub keep-requires-clause-fits : goal.keep-requires-clause-fits
keep-requires-clause-fits c =
    let arms = c.args.arms in
    subst (IsTuple (rule_of c.args.goal.now).axes) (sym c.tuple_of-tuple.ensures)
    (order-tuple c.args.goal.now arms.before.end arms.before.inner c.args.middle arms.after.inner arms.after.end c.requires.order)

pub returns-then-keep-clause-chosen : goal.returns-then-keep-clause-chosen
returns-then-keep-clause-chosen c =
    let arms = c.args.arms in
    let g = c.args.goal.now in
    let is = ap (value (rule_of g)) c.tuple_of-tuple.ensures in
    omega (arith, is, c.keep.ensures.worth c.if-keep.true, chosen-worth g arms.before.end arms.before.inner c.args.middle arms.after.inner arms.after.end c.requires.order)

pub returns-clause-chosen : goal.returns-clause-chosen
returns-clause-chosen c =
    let arms = c.args.arms in
    let g = c.args.goal.now in
    record {
      first_is = refl;
      last_is = refl;
      low = illegal-low g arms.before.end arms.before.inner c.args.middle arms.after.inner arms.after.end c.requires.order
          (λ legal. grind (arith, c.keep.ensures.legal.1 (subst (IsLegal (rule_of g)) (sym c.tuple_of-tuple.ensures) legal)));
    }
