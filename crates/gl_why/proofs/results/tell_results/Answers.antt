use Rattle.std.proofs.Common.{rules}
use Rattle.std.proofs.lemmas.Result.{on_ok_weaker}
use Rattle.gl_day.specs.Day.{performances_of}
use Rattle.gl_points.specs.Summary.{IsSummaryOf}
use Rattle.gl_why.proofs.ResultLemmas.{results_told}
use Rattle.gl_why.proofs.results.tell_results.Goals as goal

pub returns : goal.returns
returns c =
    let figures : IsSummaryOf (performances_of c.args.flights.now) c.day-figures.result = search rules in
    on_ok_weaker c.tell_each.result
    (λ each. results_told _ c.args.entrants.now c.args.flights.now c.day-figures.result _ _ _ figures c.in_ok-tell_figures.ensures each)
    c.tell_each.ensures
