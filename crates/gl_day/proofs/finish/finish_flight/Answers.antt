use Rattle.std.proofs.Common.{◌∙◌, ap, subst, ℕ, Option}
use Rattle.gl_judge.specs.Marking.{IsMarked}
use Rattle.gl_day.specs.Totals.{column}
use Rattle.gl_day.proofs.Windows.{flight_seen, seconds_in, window_in}
use Rattle.gl_day.proofs.finish.finish_flight.Goals as goal

pub mark-requires-clause-seconds : goal.mark-requires-clause-seconds
mark-requires-clause-seconds g c =
    seconds_in c.args.task.now c.requires.judged.0 c.args.rec.now c.args.judged.now c.requires.judged.1

pub penalty-requires : goal.penalty-requires
penalty-requires g c =
    window_in c.args.task.now c.requires.judged.0 c.args.rec.now c.args.judged.now c.requires.judged.1

pub returns-clause-flight : goal.returns-clause-flight
returns-clause-flight g c air bytes statements seen is claims =
    flight_seen c.args.task.now air _ c.args.entrant.now c.args.rec.now bytes statements _ seen (record {
      judged = c.args.judged.now;
      is = is;
      claims = claims.claims;
      expected = claims.expected;
      proved = claims.proved;
      outcome_is = c.outcome_of.ensures;
      marked = subst (λ (best : Option ℕ). IsMarked c.args.task.now c.args.entrant.now.handicap c.args.judged.now best c.mark.result) claims.totals_are.distance c.mark.ensures;
      penalty_is = c.penalty.ensures.penalty;
      columns = record {
        free = c.column.ensures ∙ ap (column c.args.task.now.free) claims.totals_are.free;
        triangle = c.column-2.ensures ∙ ap (column c.args.task.now.triangle) claims.totals_are.triangle;
      };
    })
