use Rattle.std.proofs.Common.{◌≡◌, ◌++◌, map, take}
use Rattle.std.specs.Prelude.{filter, not}
use Rattle.gl_series.specs.Code.Tallies.{days_of, is_in_days}
use Rattle.gl_series.proofs.pilots.push_last.Given as goal

abbrev pub invariant-loop-row : goal.invariant-loop-row
invariant-loop-row l =
    map (λ row. row.now) l.rows.items
    ≡ map (λ row. row.now) l.fn.rows.items ++ filter (λ row. not (is_in_days row.number (days_of l.later))) (take l.row-index l.day)
