use Rattle.std.proofs.Common.{◌≡◌, map, take}
use Rattle.gl_series.proofs.ordered.rows_of.Given as goal

abbrev pub invariant-loop-row : goal.invariant-loop-row
invariant-loop-row l = map (λ row. row.now) l.rows.items ≡ take l.row-index l.day
