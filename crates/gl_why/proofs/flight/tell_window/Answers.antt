use Rattle.gl_why.proofs.FlightLemmas.{window_told}
use Rattle.gl_why.proofs.flight.tell_window.Goals as goal

pub returns-clause-told : goal.returns-clause-told
returns-clause-told c =
    window_told c.args.task.now c.args.rec.now c.args.judged c.args.window c.start_of-start.result c.as_slice-zones.result.now c.as_slice-fixes.result.now c.in_ok-visited.visited.count
    c.in_ok-visited.visited.last _ _ _ c.start_of-start.ensures c.as_slice-zones.ensures c.as_slice-fixes.ensures c.in_ok-visited.ensures.most c.in_ok-visited.ensures.least c.in_ok-push.ensures
    c.in_ok-visited.ensures.told
