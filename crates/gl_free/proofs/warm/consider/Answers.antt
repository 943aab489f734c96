use Rattle.std.proofs.Common.{◌≡◌, ◌∙◌, ap, length, sym, subst, arith}
use Rattle.gl_goal.specs.FreeGoal.{rule_of}
use Rattle.gl_goal.specs.Goal.{IsTuple}
use Rattle.gl_free.proofs.ChoiceLemmas.{within-tuple}
use Rattle.gl_free.proofs.warm.consider.Goals as goal

pub keep-requires-clause-fits : goal.keep-requires-clause-fits
keep-requires-clause-fits c =
    let g = c.args.goal.now in
    let count : c.len.result ≡ length g.hulls = c.len.ensures ∙ ap length (c.hulls.ensures ∙ sym g.hulled) in
    subst (IsTuple (rule_of g).axes) (sym c.tuple_of.ensures) (within-tuple g _ _ _ _ _ (omega arith) (omega arith) (omega arith) (omega arith) (omega arith))
