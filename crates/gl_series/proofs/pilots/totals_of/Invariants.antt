use Rattle.std.proofs.Common.{◌≡◌, map, take}
use Rattle.gl_series.specs.Code.Tallies.{total_of_tally}
use Rattle.gl_series.proofs.pilots.totals_of.Given as goal

abbrev pub invariant-loop-tally : goal.invariant-loop-tally
invariant-loop-tally l = l.totals.items ≡ map total_of_tally (take l.tally-index l.tallies)
