use Rattle.std.specs.Fmt.{decimal}
use Rattle.gl_replay.proofs.StepLines.{worker_front}
use Rattle.gl_replay.proofs.schedule.worker_behind.Goals as goal

pub returns-in_err-behind : goal.returns-in_err-behind
returns-in_err-behind c = rw c.from_residual.ensures (λ worker small. c.in_err-behind.ensures (decimal worker))

pub returns : goal.returns
returns c = worker_front c.args.line.now c.args.front.now c.in_ok-behind.field-0.now c.worker_in.result c.in_ok-behind.ensures c.worker_in.ensures
