use Rattle.gl_goal.specs.FreeGoal.{rule_of}
use Rattle.gl_free.specs.Code.Search.{IsValid}
use Rattle.gl_free.proofs.warm.warm_start.Given as goal

abbrev pub invariant-loop : goal.invariant-loop
invariant-loop l = IsValid (rule_of l.goal) l.best
