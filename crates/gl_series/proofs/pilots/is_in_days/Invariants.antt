use Rattle.std.proofs.Common.{◌≡◌, drop}
use Rattle.gl_series.specs.Code.Tallies.{days_of, is_in_days}
use Rattle.gl_series.proofs.pilots.is_in_days.Given as goal

-- the number isn't in the days so far
abbrev pub invariant-loop-day : goal.invariant-loop-day
invariant-loop-day l =
    is_in_days l.number (days_of l.days) ≡ is_in_days l.number (days_of (drop l.day-index l.days))
