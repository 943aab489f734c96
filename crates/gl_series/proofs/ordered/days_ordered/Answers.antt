use Rattle.gl_series.proofs.Taken.{ordered_more}
use Rattle.gl_series.proofs.ordered.days_ordered.Goals as goal

pub loop-day-preserved : goal.loop-day-preserved
loop-day-preserved c =
    ordered_more c.args.days.now c.loop-day.all.items c.push.new.self.items c.in_ok-in_order.field-0 c.day-item.result c.loop-day.day-index c.in_ok-push.ensures.items c.in_ok-in_order.ensures.day
    c.in_ok-in_order.ensures.ordered c.loop-day.invariant c.loop-day-test.true c.day-item.is
