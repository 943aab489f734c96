use Rattle.gl_goal.specs.FreeGoal.{rule_of}
use Rattle.gl_free.specs.Code.Search.{IsValid}
use Rattle.gl_free.proofs.warm.raise.Given as goal

abbrev pub invariant-loop-index : goal.invariant-loop-index
invariant-loop-index l = IsValid (rule_of l.goal) l.best
