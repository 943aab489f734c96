use Rattle.std.proofs.lemmas.Result.{err_from_is_err_and}
use Rattle.gl_app.proofs.Badges.{claim_more, claims_all, claims_stopped, none_appended}
use Rattle.gl_app.proofs.badge.append_claims.Goals as goal

pub loop-claim-init : goal.loop-claim-init
loop-claim-init g c = none_appended c.args.proof.now c.args.claims.now (g.D.Desk.told c.args.desk.now)

pub returns-in_err-append_claim-clause-stopped : goal.returns-in_err-append_claim-clause-stopped
returns-in_err-append_claim-clause-stopped g c =
    let p = err_from_is_err_and c.from_residual.result c.from_residual.ensures.1 in
    rw (p.1, p.2) (claims_stopped c.args.proof.now c.args.claims.now c.loop-claim.claim-index c.claim-item.result (g.D.Desk.told c.args.desk.now) (g.D.Desk.told c.loop-claim.desk)
    (g.D.Desk.told c.append_claim.new.desk) c.in_err-append_claim.field-0.0 c.loop-claim-test.true c.claim-item.is c.loop-claim.invariant c.in_err-append_claim.ensures.stopped)

pub loop-claim-preserved : goal.loop-claim-preserved
loop-claim-preserved g c =
    claim_more c.args.proof.now c.args.claims.now c.loop-claim.claim-index c.claim-item.result (g.D.Desk.told c.args.desk.now) (g.D.Desk.told c.loop-claim.desk)
    (g.D.Desk.told c.append_claim.new.desk) c.loop-claim-test.true c.claim-item.is c.loop-claim.invariant c.in_ok-append_claim.ensures.appended

pub returns-clause-appended : goal.returns-clause-appended
returns-clause-appended g c =
    claims_all c.args.proof.now c.args.claims.now c.loop-claim.claim-index (g.D.Desk.told c.args.desk.now) (g.D.Desk.told c.loop-claim.desk) c.loop-claim-test.false c.loop-claim.invariant
