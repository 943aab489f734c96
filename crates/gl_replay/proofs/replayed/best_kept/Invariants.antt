use Rattle.std.proofs.Common.{map, take}
use Rattle.std.specs.Prelude.{All, Contains, IfSome, Some}
use Rattle.gl_goal.specs.Best.{IsNoLess, total_of}
use Rattle.gl_replay.proofs.replayed.best_kept.Given as goal

-- the best so far was kept, and the workers so far kept no better one
abbrev pub invariant-loop-worker : goal.invariant-loop-worker
invariant-loop-worker l = record {
  kept : IfSome l.best (λ best. Contains (map (λ worker. worker.kept) l.workers) (Some best));
  no_less : All (λ worker. IsNoLess (total_of worker.kept) (total_of l.best)) (take l.worker-index l.workers);
}
