use Rattle.gl_judge.proofs.Times.{seconds-bound}
use Rattle.gl_judge.proofs.expected.judge_flight.Goals as goal

pub returns-clause-seconds : goal.returns-clause-seconds
returns-clause-seconds c =
    seconds-bound c.args.task.now c.args.air.now.volumes c.args.rec.now c.judged_range-judged.result c.outcome_of-outcome.result c.judged_range-judged.ensures.range c.outcome_of-outcome.ensures

pub returns-clause-expected : goal.returns-clause-expected
returns-clause-expected c =
    let listed = c.in_ok-claims.ensures.expected in
    record {
      judged = c.judged_range-judged.result;
      range = c.judged_range-judged.ensures.range;
      outcome = c.outcome_of-outcome.result;
      is = c.outcome_of-outcome.ensures;
      choices = listed.choices;
      are = listed.are;
      all = listed.all;
    }

pub returns-clause-legal : goal.returns-clause-legal
returns-clause-legal c = c.in_ok-claims.ensures.legal
