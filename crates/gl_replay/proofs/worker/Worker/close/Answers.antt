use Rattle.gl_replay.proofs.Kept.{not_closed}
use Rattle.gl_replay.proofs.worker.Worker.close.Goals as goal

pub returns-in_default-reason : goal.returns-in_default-reason
returns-in_default-reason g c = not_closed (g.G.Goal.rule c.args.goal.now) c.args.self.now c.in-Some.cell c.in-Some.is c.in_default-reason.ensures
