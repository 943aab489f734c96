use Rattle.std.proofs.Common.{take}
use Rattle.gl_series.specs.Code.Tallies.{AreScored, days_of}
use Rattle.gl_series.proofs.scored.days_scored.Given as goal

abbrev pub invariant-loop-day : goal.invariant-loop-day
invariant-loop-day l = AreScored l.number (days_of (take l.day-index l.days)) l.scored.items
