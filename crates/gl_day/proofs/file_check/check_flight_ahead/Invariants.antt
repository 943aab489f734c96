use Rattle.std.proofs.Common.{◌≡◌, ℕ, ◌+◌, ◌-◌, ◌^◌, ◌++◌, List, None, take}
use Rattle.std.specs.Prelude.{min}
use Rattle.gl_desk.specs.Answers.{OnlyReads}
use Rattle.gl_day.specs.Expected.{Expected}
use Rattle.gl_day.specs.FileChecked.{HasProved}
use Rattle.gl_day.proofs.Walked.{claims_for}
use Rattle.gl_day.proofs.file_check.check_flight_ahead.Given as goal

-- the claims of the goals so far are proved, and the desk was only read
abbrev pub invariant-loop-goal : goal.invariant-loop-goal
invariant-loop-goal g l = record {
  counted : l.at ≡ min (l.count + l.goal-index) (2 ^ 64 - 1);
  same : l.claims.file.now ≡ l.fn.claims.file.now;
  reads : OnlyReads None (g.D.Desk.told l.fn.desk) (g.D.Desk.told l.desk);
  proved : (file : List ℕ) (most : ℕ) (before : List Expected) → HasProved (g.D.Desk.told l.fn.desk).folder file most before l.fn.claims
      → HasProved (g.D.Desk.told l.fn.desk).folder file most (before ++ claims_for l.number (take l.goal-index l.goals)) l.claims;
}
