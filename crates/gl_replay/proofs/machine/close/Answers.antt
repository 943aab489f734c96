use Rattle.gl_replay.specs.Machine.{Closes}
use Rattle.gl_replay.proofs.Turns.{acts_none, acts_tries, covered_at}
use Rattle.gl_replay.proofs.machine.close.Goals as goal

pub close-requires : goal.close-requires
close-requires g c = covered_at (g.G.Goal.rule c.args.goal.now) c.args.workers.now c.args.number c.index-workers-place.result c.requires c.if-place-workers.true

pub returns-in_ok-close : goal.returns-in_ok-close
returns-in_ok-close g c = acts_tries (Closes (g.G.Goal.rule c.args.goal.now)) c.args.workers.now c.args.number c.index-workers-place.result c.close.new.self c.if-place-workers.true
    c.in_ok-close.ensures

pub returns-else-place-workers : goal.returns-else-place-workers
returns-else-place-workers g c = acts_none (Closes (g.G.Goal.rule c.args.goal.now)) c.args.workers.now c.args.number c.if-place-workers.false
