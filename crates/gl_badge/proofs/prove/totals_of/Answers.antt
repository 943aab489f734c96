use Rattle.std.proofs.Common.{refl}
use Rattle.gl_proof.specs.declared.claim.Claim.{Claim}
use Rattle.gl_day.proofs.Mapped.{mapped-all, mapped-more}
use Rattle.gl_badge.proofs.prove.totals_of.Goals as goal

pub loop-claim-preserved : goal.loop-claim-preserved
loop-claim-preserved c =
    mapped-more (λ (claim : Claim). claim.total) c.args.claims.now c.loop-claim.claim-index c.claim-item.result c.claim-item.result.total c.loop-claim.totals.items c.push.new.self.items
    c.loop-claim-test.true c.claim-item.is refl c.loop-claim.invariant c.in_ok-push.ensures.items

pub returns : goal.returns
returns c = mapped-all (λ (claim : Claim). claim.total) c.args.claims.now c.loop-claim.claim-index c.loop-claim.totals.items c.loop-claim-test.false c.loop-claim.invariant
