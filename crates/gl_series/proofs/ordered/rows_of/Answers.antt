use Rattle.std.proofs.Common.{Bor, ◌∙◌, arith}
use Rattle.std.proofs.lemmas.List.{take_all}
use Rattle.gl_series.specs.declared.day.DayRow.{DayRow}
use Rattle.gl_series.proofs.Taken.{seen_more}
use Rattle.gl_series.proofs.ordered.rows_of.Goals as goal

pub loop-row-preserved : goal.loop-row-preserved
loop-row-preserved c =
    seen_more (λ (row : Bor DayRow). row.now) c.loop-row.rows.items c.push.new.self.items _ c.args.day.now c.loop-row.row-index c.in_ok-push.ensures.items c.loop-row.invariant c.loop-row-test.true
    c.row-item.is

pub returns : goal.returns
returns c = c.loop-row.invariant ∙ take_all c.loop-row.row-index c.args.day.now (omega (arith, c.loop-row-test.false))
