use Rattle.std.proofs.Common.{◌≡◌, ℕ, List, [], None, take}
use Rattle.gl_desk.specs.Answers.{OnlyReads}
use Rattle.gl_day.specs.FileChecked.{HasProved}
use Rattle.gl_badge.proofs.Proving.{expected_for}
use Rattle.gl_badge.proofs.check.check_claims.Given as goal

-- so many claims are right, and the desk was only read
abbrev pub invariant-loop-claim : goal.invariant-loop-claim
invariant-loop-claim g l = record {
  counted : l.count ≡ l.claim-index;
  same : l.file.file.now ≡ l.fn.file.file.now;
  reads : OnlyReads None (g.D.Desk.told l.fn.desk) (g.D.Desk.told l.desk);
  proved : (name : List ℕ) (most : ℕ) → HasProved (g.D.Desk.told l.fn.desk).folder name most [] l.fn.file
      → HasProved (g.D.Desk.told l.fn.desk).folder name most (expected_for (take l.claim-index l.claims)) l.file;
}
