use Rattle.std.proofs.Common.{drop, take}
use Rattle.gl_series.proofs.Summed.{SumsUpTo}
use Rattle.gl_series.proofs.teams.team_sums.Given as goal

abbrev pub invariant-loop-place : goal.invariant-loop-place
invariant-loop-place l =
    SumsUpTo l.shares (take l.place l.shares) (drop l.place l.shares) l.sums.items l.total
