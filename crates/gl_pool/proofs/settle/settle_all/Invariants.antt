use Rattle.gl_pool.proofs.SettlingAll.{SettlingAll}
use Rattle.gl_pool.proofs.settle.settle_all.Given as goal

abbrev pub invariant-loop-worker : goal.invariant-loop-worker
invariant-loop-worker l = SettlingAll l.fn.places l.places l.worker
