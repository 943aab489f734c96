use Rattle.std.proofs.Common.{◌≡◌, map, take}
use Rattle.gl_series.specs.Code.Tallies.{pilot_of}
use Rattle.gl_series.proofs.pilots.ranked.Given as goal

abbrev pub invariant-loop-tally : goal.invariant-loop-tally
invariant-loop-tally l = l.pilots.items ≡ map (pilot_of l.totals) (take l.tally-index l.tallies)
