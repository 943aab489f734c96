use Rattle.std.proofs.Common.{take}
use Rattle.gl_judge.specs.Greatest.{IsLeast}
use Rattle.gl_judge.specs.JudgedFixes.{IsInRange}
use Rattle.gl_judge.specs.Visits.{HasVisit}
use Rattle.gl_judge.proofs.visits.visit_zones.Given as goal

abbrev pub invariant-loop-count : goal.invariant-loop-count
invariant-loop-count l = record {
  is_judged : IsInRange l.judged l.last;
  least : IsLeast (HasVisit l.fixes l.judged (take l.count l.zones) l.from) l.last;
}
