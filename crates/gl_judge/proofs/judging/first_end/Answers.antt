use Rattle.gl_judge.proofs.Finishing.{all-least}
use Rattle.gl_judge.proofs.judging.first_end.Goals as goal

pub returns-clause-least : goal.returns-clause-least
returns-clause-least c =
    all-least c.args.task.now c.args.rec.now c.args.judged c.as_slice.result.now c.as_slice-zones.result.now c.args.start c.visit_zones.result.count c.visit_zones.result.last c.as_slice.ensures
    c.as_slice-zones.ensures c.requires.complete
    c.visit_zones.ensures.most c.visit_zones.ensures.least
