use Rattle.std.proofs.Common.{◌≡◌, ℕ, List, [], None, take}
use Rattle.gl_check.specs.File.{HasSaid}
use Rattle.gl_desk.specs.Answers.{OnlyReads}
use Rattle.gl_day_claims.proofs.Compared.{AreChecked}
use Rattle.gl_day_claims.proofs.checking.check_claims.Given as goal

abbrev pub invariant-loop-entrant : goal.invariant-loop-entrant
invariant-loop-entrant g l = record {
  reads : OnlyReads None (g.D.Desk.told l.fn.desk) (g.D.Desk.told l.desk);
  same : l.claims.file.now ≡ l.fn.claims.file.now;
  checked : (file : List ℕ) (most : ℕ) → HasSaid (g.D.Desk.told l.fn.desk).folder file most [] l.fn.claims
      → AreChecked (g.D.Desk.told l.fn.desk).folder l.files file most (take l.entrant-index l.files.task.entrants) l.claims l.count;
}
