use Rattle.std.specs.Prelude.{option_map}
use Rattle.gl_why.proofs.ResultLemmas.{scored_told}
use Rattle.gl_why.proofs.day.tell_scored.Goals as goal

pub returns-clause-told : goal.returns-clause-told
returns-clause-told g c =
    scored_told (g.D.Desk.told c.args.desk.now).folder c.args.names.now (option_map (λ number. number.now) c.args.choice) c.args.task.now c.args.air.now c.as_slice.result.now c.in_ok-flights.flights.items
    c.as_slice-2.result.now _ _ _ c.as_slice.ensures c.as_slice-2.ensures.value c.in_ok-flights.ensures.told c.in_ok-tell_results.ensures
