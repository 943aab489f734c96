use Rattle.std.proofs.Common.{◌≡◌, map, take}
use Rattle.gl_series.specs.Code.Tallies.{total_of_sum}
use Rattle.gl_series.proofs.teams.totals_of.Given as goal

abbrev pub invariant-loop-sum : goal.invariant-loop-sum
invariant-loop-sum l = l.totals.items ≡ map total_of_sum (take l.sum-index l.sums)
