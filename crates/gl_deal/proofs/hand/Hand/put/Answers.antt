use Rattle.gl_deal.proofs.Steps.{puts}
use Rattle.gl_deal.proofs.hand.Hand.put.Goals as goal

pub push_as-requires-clause-pushes : goal.push_as-requires-clause-pushes
push_as-requires-clause-pushes c = puts _ _ _ c.args.self.now.of_hand
