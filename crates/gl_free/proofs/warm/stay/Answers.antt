use Rattle.std.proofs.Common.{sym, subst, arith}
use Rattle.gl_goal.specs.FreeGoal.{rule_of}
use Rattle.gl_goal.specs.Goal.{IsTuple}
use Rattle.gl_free.proofs.ChoiceLemmas.{stay-valid, within-tuple}
use Rattle.gl_free.proofs.warm.stay.Goals as goal
use Rattle.gl_goal.proofs.FreeHulls.{length-hulls}

pub value-requires : goal.value-requires
value-requires c =
    let g = c.args.goal.now in
    let count = length-hulls g in
    subst (IsTuple (rule_of g).axes) (sym c.tuple_of-tuple.ensures) (within-tuple g 0 0 0 0 0 (omega arith) (omega arith) (omega arith) (omega arith) (omega arith))

pub returns : goal.returns
returns c =
    stay-valid c.args.goal.now (record { total = c.value.result; tuple = c.tuple_of-tuple.result }) c.tuple_of-tuple.ensures c.value.ensures
