use Rattle.std.proofs.Common.{take}
use Rattle.gl_goal.specs.Free.{numbers_from}
use Rattle.gl_judge.specs.Greatest.{IsLeast}
use Rattle.gl_judge.specs.JudgedFixes.{IsInRange}
use Rattle.gl_judge.specs.Visits.{HasVisit}
use Rattle.gl_why.specs.Facts.{AddsFacts, AreFound}
use Rattle.gl_why.specs.Visits.{IsVisitTold}
use Rattle.gl_why.proofs.visits.tell_visits.Given as goal

-- so many zones are visited, each as early as can be, and told
abbrev pub invariant-loop-count : goal.invariant-loop-count
invariant-loop-count l = record {
  is_judged : IsInRange l.judged l.last;
  least : IsLeast (HasVisit l.fixes l.judged (take l.count l.zones) l.from) l.last;
  told : AddsFacts (AreFound (IsVisitTold l.fixes l.judged l.zones l.from) (numbers_from 1 l.count)) l.initial.lines l.lines;
}
