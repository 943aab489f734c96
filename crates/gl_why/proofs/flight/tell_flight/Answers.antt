use Rattle.gl_why.proofs.FlightLemmas.{outcome_on}
use Rattle.gl_why.proofs.flight.tell_flight.Goals as goal

pub tell_judged-requires-clause-outcome : goal.tell_judged-requires-clause-outcome
tell_judged-requires-clause-outcome c =
    outcome_on c.args.task.now c.args.air.now c.args.rec.now c.judged_range-judged.result c.args.outcome.now c.judged_range-judged.ensures.range c.requires
