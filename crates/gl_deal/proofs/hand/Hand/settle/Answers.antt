use Rattle.gl_deal.proofs.Steps.{merges}
use Rattle.gl_deal.proofs.hand.Hand.settle.Goals as goal

pub absorb-requires-clause-rule : goal.absorb-requires-clause-rule
absorb-requires-clause-rule c = merges _ _ _ _ c.args.self.now.of_hand c.into_token.ensures.pass
