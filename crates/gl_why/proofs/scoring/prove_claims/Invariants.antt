use Rattle.std.proofs.Common.{take}
use Rattle.gl_day.specs.Expected.{expected_of}
use Rattle.gl_judge.specs.Claimed.{rules_of_claims}
use Rattle.gl_why.specs.Code.Scoring.{AreProven}
use Rattle.gl_why.proofs.scoring.prove_claims.Given as goal

-- the claims so far are proved
abbrev pub invariant-loop-goal : goal.invariant-loop-goal
invariant-loop-goal l = AreProven (expected_of l.number (rules_of_claims (take l.goal-index l.goals))) l.totals l.credited.items
