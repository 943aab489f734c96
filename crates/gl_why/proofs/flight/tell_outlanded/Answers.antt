use Rattle.std.proofs.lemmas.Result.{on_ok_weaker}
use Rattle.gl_why.proofs.FlightLemmas.{outlanded_told}
use Rattle.gl_why.proofs.flight.tell_outlanded.Goals as goal

pub returns : goal.returns
returns c =
    on_ok_weaker c.tell_miss.result
    (λ told. outlanded_told c.args.task.now c.args.rec.now c.args.judged c.args.window c.in_ok-visited.visited.count c.in_ok-visited.visited.last _ _ _ c.in_ok-visited.ensures.told told)
    c.tell_miss.ensures
