use Rattle.std.proofs.Common.{◌∙◌, ◌++◌, ◌∷◌, append_assoc}
use Rattle.std.specs.Fmt.{decimal}
use Rattle.gl_replay.proofs.StepLines.{workers_front, workers_joined, workers_parted}
use Rattle.gl_replay.proofs.schedule.workers_behind.Goals as goal

pub returns-in_err-behind : goal.returns-in_err-behind
returns-in_err-behind c = rw c.from_residual.ensures (λ worker other small small_other same.
    c.in_err-behind.ensures (decimal worker ++ 32 ∷ decimal other) (same ∙ append_assoc c.args.front.now (decimal worker) (32 ∷ decimal other)))

pub returns-in_err-worker : goal.returns-in_err-worker
returns-in_err-worker c = rw c.from_residual-in_err-worker.ensures (λ worker other small small_other same.
    c.in_err-worker.ensures (decimal worker) (decimal other) (workers_front c.args.line.now c.args.front.now c.in_ok-behind.field-0.now worker other c.in_ok-behind.ensures same))

pub returns-in_err-worker_in : goal.returns-in_err-worker_in
returns-in_err-worker_in c = rw c.from_residual-in_err-worker_in.ensures (λ worker other small small_other same.
    let rest = workers_front c.args.line.now c.args.front.now c.in_ok-behind.field-0.now worker other c.in_ok-behind.ensures same in
    c.in_err-worker_in.ensures worker small (workers_parted c.in_ok-behind.field-0.now c.in_ok-worker.worker.now c.in_ok-worker.other.now worker other small c.in_ok-worker.ensures rest).0)

pub returns-in_err-worker_in-2 : goal.returns-in_err-worker_in-2
returns-in_err-worker_in-2 c = rw c.from_residual-in_err-worker_in-2.ensures (λ worker other small small_other same.
    let rest = workers_front c.args.line.now c.args.front.now c.in_ok-behind.field-0.now worker other c.in_ok-behind.ensures same in
    c.in_err-worker_in-2.ensures other small_other (workers_parted c.in_ok-behind.field-0.now c.in_ok-worker.worker.now c.in_ok-worker.other.now worker other small c.in_ok-worker.ensures rest).1)

pub returns : goal.returns
returns c = workers_joined c.args.line.now c.args.front.now c.in_ok-behind.field-0.now c.in_ok-worker.worker.now c.in_ok-worker.other.now c.in_ok-worker_in.field-0 c.in_ok-worker_in-2.field-0
    c.in_ok-behind.ensures c.in_ok-worker.ensures c.in_ok-worker_in.ensures c.in_ok-worker_in-2.ensures
