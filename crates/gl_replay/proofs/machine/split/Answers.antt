use Rattle.gl_replay.specs.Machine.{Splits}
use Rattle.gl_replay.proofs.Turns.{acts_none, acts_tries}
use Rattle.gl_replay.proofs.machine.split.Goals as goal

pub returns-in_ok-split : goal.returns-in_ok-split
returns-in_ok-split c = acts_tries Splits c.args.workers.now c.args.number c.index-workers-place.result c.split.new.self c.if-place-workers.true c.in_ok-split.ensures

pub returns-else-place-workers : goal.returns-else-place-workers
returns-else-place-workers c = acts_none Splits c.args.workers.now c.args.number c.if-place-workers.false
