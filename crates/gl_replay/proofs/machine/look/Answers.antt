use Rattle.std.proofs.Common.{inl}
use Rattle.gl_replay.specs.Machine.{Looks}
use Rattle.gl_replay.proofs.Turns.{acts_none, acts_tries}
use Rattle.gl_replay.proofs.machine.look.Goals as goal

pub returns-then-place-workers : goal.returns-then-place-workers
returns-then-place-workers c = acts_tries (Looks c.args.word) c.args.workers.now c.args.number c.index-workers-place.result c.look.new.self c.if-place-workers.true (inl c.look.ensures)

pub returns-else-place-workers : goal.returns-else-place-workers
returns-else-place-workers c = acts_none (Looks c.args.word) c.args.workers.now c.args.number c.if-place-workers.false
