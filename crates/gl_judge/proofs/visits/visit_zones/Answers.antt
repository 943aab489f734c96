use Rattle.gl_judge.proofs.Farthest.{least-push, most-stop}
use Rattle.gl_judge.proofs.visits.visit_zones.Goals as goal

pub returns-in-None-clause-most : goal.returns-in-None-clause-most
returns-in-None-clause-most c =
    most-stop c.args.fixes.now c.args.judged c.args.zones.now c.loop-count.count c.args.from c.loop-count.last c.index-zones-count.result c.loop-count-test.true c.index-zones-count.is
    c.loop-count.invariant.least c.in-None.ensures.none

pub loop-count-preserved : goal.loop-count-preserved
loop-count-preserved c = record {
  is_judged = c.in-Some.ensures.found.is_judged;
  least = least-push c.args.fixes.now c.args.judged c.args.zones.now c.loop-count.count c.args.from c.loop-count.last c.in-Some.z c.index-zones-count.result c.loop-count-test.true
      c.index-zones-count.is c.loop-count.invariant.least c.in-Some.ensures.found c.in-Some.ensures.after c.in-Some.ensures.first;
}
