use Rattle.std.proofs.Common.{◌≡◌, ◌++◌, map, drop}
use Rattle.gl_series.specs.Code.Tallies.{days_of, last_rows}
use Rattle.gl_series.proofs.pilots.last_rows.Given as goal

abbrev pub invariant-loop-place : goal.invariant-loop-place
invariant-loop-place l =
    map (λ row. row.now) l.rows.items ++ last_rows (days_of (drop l.place l.days)) ≡ last_rows (days_of l.days)
