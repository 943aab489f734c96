use Rattle.gl_deal.proofs.Steps.{steals}
use Rattle.gl_deal.proofs.pass.Pass.steal.Goals as goal

pub steal_as-requires-clause-takes : goal.steal_as-requires-clause-takes
steal_as-requires-clause-takes c = steals _ _ c.args.self.now.of_pass c.args.self.now.serves_one
