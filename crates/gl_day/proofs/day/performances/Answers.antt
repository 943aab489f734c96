use Rattle.std.proofs.Common.{refl}
use Rattle.gl_day.specs.declared.flight.Flight.{Flight}
use Rattle.gl_day.proofs.Mapped.{mapped-all, mapped-more}
use Rattle.gl_day.proofs.day.performances.Goals as goal

pub loop-flight-preserved : goal.loop-flight-preserved
loop-flight-preserved c =
    mapped-more (λ (flight : Flight). flight.performance) c.args.flights.now c.loop-flight.flight-index c.flight-item.result c.flight-item.result.performance c.loop-flight.list.items
    c.push.new.self.items c.loop-flight-test.true c.flight-item.is refl c.loop-flight.invariant c.in_ok-push.ensures.items

pub returns : goal.returns
returns c = mapped-all (λ (flight : Flight). flight.performance) c.args.flights.now c.loop-flight.flight-index c.loop-flight.list.items c.loop-flight-test.false c.loop-flight.invariant
