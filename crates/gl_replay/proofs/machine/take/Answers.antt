use Rattle.gl_replay.specs.Machine.{Takes}
use Rattle.gl_replay.proofs.Turns.{acts_none, acts_tries}
use Rattle.gl_replay.proofs.machine.take.Goals as goal

pub returns-then-place-workers : goal.returns-then-place-workers
returns-then-place-workers c = acts_tries Takes c.args.workers.now c.args.number c.index-workers-place.result c.take.new.self c.if-place-workers.true c.take.ensures

pub returns-else-place-workers : goal.returns-else-place-workers
returns-else-place-workers c = acts_none Takes c.args.workers.now c.args.number c.if-place-workers.false
