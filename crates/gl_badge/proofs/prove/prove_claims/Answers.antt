use Rattle.gl_badge.proofs.Proving.{all_proved, one_proved}
use Rattle.gl_badge.proofs.prove.prove_claims.Goals as goal

pub loop-claim-preserved : goal.loop-claim-preserved
loop-claim-preserved c =
    one_proved c.args.claims.now c.loop-claim.claim-index c.claim-item.result c.loop-claim.proved.items _ _ c.loop-claim-test.true c.claim-item.is c.in_ok-push.ensures.items c.loop-claim.invariant
    c.in_ok-prove_claim.ensures

pub returns : goal.returns
returns c = all_proved c.args.claims.now c.loop-claim.claim-index c.loop-claim.proved.items c.loop-claim-test.false c.loop-claim.invariant
