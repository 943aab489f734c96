use Rattle.std.proofs.Common.{◌≡◌, map, take}
use Rattle.gl_day.specs.Day.{row_of}
use Rattle.gl_day.proofs.day.rows.Given as goal

abbrev pub invariant-loop-flight : goal.invariant-loop-flight
invariant-loop-flight l = l.rows.items ≡ map (row_of l.day) (take l.flight-index l.flights)
