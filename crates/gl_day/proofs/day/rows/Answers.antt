use Rattle.gl_day.specs.Day.{row_of}
use Rattle.gl_day.proofs.Mapped.{mapped-all, mapped-more}
use Rattle.gl_day.proofs.day.rows.Goals as goal

pub loop-flight-preserved : goal.loop-flight-preserved
loop-flight-preserved c =
    mapped-more (row_of c.args.day.now) c.args.flights.now c.loop-flight.flight-index c.flight-item.result c.row_of.result c.loop-flight.rows.items c.push.new.self.items c.loop-flight-test.true
    c.flight-item.is c.row_of.ensures c.loop-flight.invariant c.in_ok-push.ensures.items

pub returns : goal.returns
returns c = mapped-all (row_of c.args.day.now) c.args.flights.now c.loop-flight.flight-index c.loop-flight.rows.items c.loop-flight-test.false c.loop-flight.invariant
