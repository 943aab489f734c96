use Rattle.std.proofs.Common.{drop}
use Rattle.gl_judge.specs.Greatest.{IsGreatest}
use Rattle.gl_judge.specs.JudgedFixes.{IsInRange}
use Rattle.gl_judge.specs.Visits.{CanFinish}
use Rattle.gl_judge.proofs.visits.last_ready.Given as goal

abbrev pub invariant-loop-k : goal.invariant-loop-k
invariant-loop-k l = record {
  is_judged : IsInRange l.judged l.limit;
  last : IsGreatest (CanFinish l.task.finish l.rec.fixes l.judged (drop l.k l.zones)) l.limit;
}
