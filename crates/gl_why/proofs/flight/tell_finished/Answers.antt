use Rattle.std.proofs.lemmas.Result.{on_ok_weaker}
use Rattle.gl_why.proofs.FlightLemmas.{finished_told}
use Rattle.gl_why.proofs.flight.tell_finished.Goals as goal

pub returns : goal.returns
returns c =
    on_ok_weaker c.push.result
    (λ pushed. finished_told c.args.task.now c.args.rec.now c.args.judged c.args.window c.args.seconds c.in_ok-tell_window.field-0.count c.in_ok-tell_window.field-0.last c.finish_of-finish.result _ _ _
    c.in_ok-tell_window.ensures.told c.finish_of-finish.ensures pushed)
    c.push.ensures
