use Rattle.std.proofs.Common.{take}
use Rattle.gl_series.specs.Code.Tallies.{AreOrdered}
use Rattle.gl_series.proofs.ordered.days_ordered.Given as goal

abbrev pub invariant-loop-day : goal.invariant-loop-day
invariant-loop-day l = AreOrdered (take l.day-index l.days) l.all.items
