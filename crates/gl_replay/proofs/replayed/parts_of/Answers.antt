use Rattle.gl_replay.specs.Code.Parts.{parts_left}
use Rattle.gl_replay.proofs.Gathered.{gathered_all, gathered_more}
use Rattle.gl_replay.proofs.replayed.parts_of.Goals as goal

pub loop-worker-preserved : goal.loop-worker-preserved
loop-worker-preserved c = gathered_more parts_left c.args.workers.now c.loop-worker.worker-index c.worker-item.result _ _ c.loop-worker-test.true c.worker-item.is c.loop-worker.invariant
    c.in_ok-push_parts.ensures

pub returns : goal.returns
returns c = gathered_all parts_left c.args.workers.now c.loop-worker.worker-index _ c.loop-worker-test.false c.loop-worker.invariant
