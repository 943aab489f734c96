use Rattle.std.proofs.Common.{◌≡◌, map, take}
use Rattle.gl_series.specs.Code.Tallies.{team_of}
use Rattle.gl_series.proofs.teams.ranked.Given as goal

abbrev pub invariant-loop-sum : goal.invariant-loop-sum
invariant-loop-sum l = l.teams.items ≡ map (team_of l.totals) (take l.sum-index l.sums)
