use Rattle.gl_series.specs.Code.Tallies.{days_of}
use Rattle.gl_series.proofs.Tallied.{totals_more}
use Rattle.gl_series.proofs.pilots.tallies_of.Goals as goal

pub loop-row-preserved : goal.loop-row-preserved
loop-row-preserved c =
    totals_more (days_of c.args.days.now) c.args.rows.now c.args.drop c.loop-row.tallies.items c.push.new.self.items _ c.loop-row.row-index c.loop-row.invariant c.loop-row-test.true c.row-item.is
    c.in_ok-sums.ensures.tally c.in_ok-sums.ensures.low c.in_ok-push.ensures.items
