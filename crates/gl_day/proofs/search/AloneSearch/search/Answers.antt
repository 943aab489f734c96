use Rattle.std.proofs.Common.{Result, Ok, Err}
use Rattle.std.specs.Prelude.{◌↔◌, IfOk, IsNone}
use Rattle.gl_goal.specs.AnyGoal.{any_rule}
use Rattle.gl_goal.specs.Best.{IsSound, total_of}
use Rattle.gl_goal.specs.Goal.{Goal, HasNoLegal, IsOptimum}
use Rattle.gl_plain.specs.Answer.{IsAnswer}
use Rattle.gl_plain.specs.Found.{AreNeeded, HoldsEachOnce, IsCertified}
use Rattle.gl_plain.specs.declared.found.Found.{Found}
use Rattle.gl_day.proofs.search.AloneSearch.search.Goals as goal

answered : {E : Type 0} (rule : Goal) (result : Result Found E) → IfOk result (IsCertified rule) → IfOk result (HoldsEachOnce rule) → IfOk result (λ found. IsSound rule found.best)
    → IfOk result (λ found. IsOptimum rule (total_of found.best)) → IfOk result (λ found. IsNone found.best ↔ HasNoLegal rule) → IfOk result (AreNeeded rule) → IfOk result (IsAnswer rule)
answered rule (Ok found) certificate once reached optimum none needed =
    record { certificate = certificate; once = once; reached = reached; optimum = optimum; none = none; needed = needed }
answered rule (Err error) certificate once reached optimum none needed = tt

pub returns : goal.returns
returns c =
    let e = c.search_one.ensures in
    answered (any_rule c.args.goal.now) c.search_one.result e.certificate e.once e.reached e.optimum e.none e.needed
