use Rattle.std.proofs.Common.{take, map}
use Rattle.gl_series.specs.Code.Tallies.{AreTotals, days_of}
use Rattle.gl_series.proofs.pilots.tallies_of.Given as goal

abbrev pub invariant-loop-row : goal.invariant-loop-row
invariant-loop-row l =
    AreTotals (days_of l.days) (map (λ row. row.now) (take l.row-index l.rows)) l.drop l.tallies.items
