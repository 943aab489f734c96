use Rattle.std.proofs.Common.{ap, arith}
use Rattle.gl_deal.specs.declared.view.HandView.{HandView}
use Rattle.gl_deal.proofs.Steps.{forks_earlier, forks_later}
use Rattle.gl_deal.proofs.hand.Hand.serve.Goals as goal

pub another-token-requires : goal.another-token-requires
another-token-requires c =
    let owner = ap (λ (hand : HandView). hand.owner) c.requires.partly in
    let workers = ap (λ (hand : HandView). hand.workers) c.requires.partly in
    forks_earlier _ _ c.args.self.now.of_hand (omega (arith, c.if-worker-owner.true))

pub another-token-requires-else-worker-owner : goal.another-token-requires-else-worker-owner
another-token-requires-else-worker-owner c = forks_later _ _ c.args.self.now.of_hand
