use Rattle.gl_judge.proofs.Times.{seconds-bound}
use Rattle.gl_judge.proofs.judging.judge.Goals as goal

pub returns-clause-seconds : goal.returns-clause-seconds
returns-clause-seconds c =
    seconds-bound c.args.task.now c.args.air.now.volumes c.args.rec.now c.judged_range-judged.result c.outcome_of.result c.judged_range-judged.ensures.range c.outcome_of.ensures
