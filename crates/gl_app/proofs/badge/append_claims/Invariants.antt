use Rattle.std.proofs.Common.{take}
use Rattle.gl_answer.specs.Appending.{HasAppended}
use Rattle.gl_app.proofs.Badges.{claims_text}
use Rattle.gl_app.proofs.badge.append_claims.Given as goal

-- the claims so far are appended
abbrev pub invariant-loop-claim : goal.invariant-loop-claim
invariant-loop-claim g l = HasAppended l.proof (claims_text (take l.claim-index l.claims)) (g.D.Desk.told l.fn.desk) (g.D.Desk.told l.desk)
