use Rattle.gl_why.specs.Stewards.{the_stewards}
use Rattle.gl_why.proofs.EntrantLemmas.{absent_told}
use Rattle.gl_why.proofs.entrant.tell_seen.Goals as goal

pub returns-in-Absent : goal.returns-in-Absent
returns-in-Absent c =
    absent_told c.tell_unread.result c.args.task.now c.args.air.now c.args.entrant.now c.args.sight.now c.absent_flight.result c.args.lines.now c.tell_unread.new.lines c.in-Absent.is
    (c.absent_flight.ensures c.args.air.now the_stewards) c.tell_unread.ensures.same c.tell_unread.ensures.told
