use Rattle.std.proofs.Common.{◌≡◌, take}
use Rattle.gl_day.specs.Day.{performances_of}
use Rattle.gl_day.proofs.day.performances.Given as goal

abbrev pub invariant-loop-flight : goal.invariant-loop-flight
invariant-loop-flight l = l.list.items ≡ performances_of (take l.flight-index l.flights)
