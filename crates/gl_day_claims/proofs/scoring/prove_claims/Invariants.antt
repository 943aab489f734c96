use Rattle.std.proofs.Common.{take}
use Rattle.gl_day.specs.Expected.{expected_of}
use Rattle.gl_judge.specs.Claimed.{rules_of_claims}
use Rattle.gl_day_claims.specs.Code.Scoring.{AreClaimed}
use Rattle.gl_day_claims.proofs.scoring.prove_claims.Given as goal

abbrev pub invariant-loop-goal : goal.invariant-loop-goal
invariant-loop-goal g l =
    AreClaimed (expected_of l.number (rules_of_claims (take l.goal-index l.goals))) l.totals l.proof (g.D.Desk.told l.fn.desk) (g.D.Desk.told l.desk)
