use Rattle.gl_replay.proofs.Gathered.{best_among, no_less_more, no_less_all}
use Rattle.gl_replay.proofs.replayed.best_kept.Goals as goal

pub loop-worker-preserved : goal.loop-worker-preserved
loop-worker-preserved c = record {
  kept = best_among c.args.workers.now c.loop-worker.worker-index c.worker-item.result c.loop-worker.best c.better-best.result c.loop-worker-test.true c.worker-item.is c.loop-worker.invariant.kept
      c.better-best.ensures.either;
  no_less = no_less_more c.args.workers.now c.loop-worker.worker-index c.worker-item.result c.loop-worker.best c.better-best.result c.loop-worker-test.true c.worker-item.is
      c.loop-worker.invariant.no_less c.better-best.ensures.no_less c.better-best.ensures.no_less_other;
}

pub returns-clause-no_less : goal.returns-clause-no_less
returns-clause-no_less c = no_less_all c.args.workers.now c.loop-worker.worker-index c.loop-worker.best c.loop-worker-test.false c.loop-worker.invariant.no_less
