use Rattle.std.proofs.Common.{List, subst, sym, take}
use Rattle.gl_igc.specs.declared.fix.Fix.{Fix}
use Rattle.gl_judge.specs.Greatest.{IsLeast}
use Rattle.gl_judge.specs.Visits.{HasVisit, VisitsFirst}
use Rattle.gl_judge.proofs.Tours.{all-visited}
use Rattle.gl_judge.proofs.choices.first_visit.Goals as goal

pub returns-clause-least : goal.returns-clause-least
returns-clause-least c =
    let judged = c.args.judged in
    let zones = c.args.task.now.zones in
    let visited = subst (λ (fixes : List Fix). VisitsFirst fixes judged zones c.args.start c.args.count) (sym c.as_slice-2.ensures) c.requires.visited in
    subst (λ (fixes : List Fix). IsLeast (HasVisit fixes judged (take c.args.count zones) c.args.start) c.visit_zones.result.last) c.as_slice-2.ensures
    (all-visited c.as_slice-2.result.now judged zones c.as_slice.result.now c.args.start c.args.count c.visit_zones.result.count c.visit_zones.result.last c.as_slice.ensures visited
    c.visit_zones.ensures.most c.visit_zones.ensures.least)
